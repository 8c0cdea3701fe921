use Rattle.std.proofs.Common.{arith}
use Rattle.worked_stages.specs.declared.channel.TheConstants.{FIRST, SECOND, ENDS}
use Rattle.worked_stages.proofs.Rounds.{drain_tick}
use Rattle.worked_stages.proofs.drains.round.Goals as goal

pub returns : goal.returns
returns c = drain_tick c.drain_laws.ensures.fits ENDS c.step-2.new.drain FIRST SECOND (omega arith) (omega arith) c.step-2.new.net c.tick.new.net c.tick.ensures c.step-2.ensures

use Rattle.std.proofs.Common.{arith}
use Rattle.worked_stages.specs.declared.channel.TheConstants.{FIRST, SECOND}
use Rattle.worked_stages.proofs.Rounds.{refill_tick}
use Rattle.worked_stages.proofs.refills.round.Goals as goal

pub returns : goal.returns
returns c = refill_tick c.refill_laws.ensures.fits c.step-2.new.self FIRST SECOND (omega arith) (omega arith) c.step-2.new.net c.tick.new.net c.tick.ensures c.step-2.ensures.fits

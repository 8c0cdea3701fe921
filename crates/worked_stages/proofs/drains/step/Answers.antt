use Rattle.worked_stages.specs.declared.channel.TheConstants.{ENDS}
use Rattle.worked_stages.proofs.Rounds.{drain_step}
use Rattle.worked_stages.proofs.drains.step.Goals as goal

pub returns : goal.returns
returns c =
    drain_step ENDS c.args.net.now.channels c.step.new.net.channels c.args.drain.now c.step.new.self c.step.ensures.fits c.step.ensures.agents c.step.ensures.frame c.requires

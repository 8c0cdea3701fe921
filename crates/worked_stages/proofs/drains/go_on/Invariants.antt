use Rattle.worked_stages.specs.Handed.{IsDraining}
use Rattle.worked_stages.specs.declared.channel.TheConstants.{ENDS}
use Rattle.worked_stages.proofs.drains.go_on.Given as goal

abbrev pub invariant-loop-round : goal.invariant-loop-round
invariant-loop-round l = IsDraining l.net.channels ENDS l.drain

use Rattle.refill_core.specs.Refills.{Fits}
use Rattle.worked_stages.proofs.refills.go_on.Given as goal

abbrev pub invariant-loop-round : goal.invariant-loop-round
invariant-loop-round l = Fits l.net.channels l.refill

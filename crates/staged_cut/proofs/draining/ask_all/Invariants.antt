use Rattle.staged_cut.proofs.Asking.{IsAsking}
use Rattle.staged_cut.proofs.draining.ask_all.Given as goal

abbrev pub invariant-loop-p : goal.invariant-loop-p
invariant-loop-p l = IsAsking l.live l.p-index l.barrier

use Rattle.std.proofs.Common.{◌≡◌}
use Rattle.bench_kernels.proofs.cut.vote_all.Given as goal

abbrev pub invariant-loop-p : goal.invariant-loop-p
invariant-loop-p l = l.suspended.next_id ≡ l.initial.suspended.next_id

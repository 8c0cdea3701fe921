use Rattle.std.specs.Prelude.{length}
use Rattle.computation.specs.Computations.{plain_of}
use Rattle.computation.proofs.MissingWalk.{Passed, entries_of, from_above}
use Rattle.computation.proofs.computation.Computation.first_missing.Given as goal

abbrev pub invariant-loop-dir : goal.invariant-loop-dir
invariant-loop-dir l = Passed (plain_of l.self) l.above

abbrev pub decreases-loop-dir : goal.decreases-loop-dir
decreases-loop-dir l = length (from_above l.above (entries_of (plain_of l.self)))

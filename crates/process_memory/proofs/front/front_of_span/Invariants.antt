use Rattle.std.proofs.Common.{◌≡◌, ℕ, List, Some}
use Rattle.plain_process.specs.Memory.{bytes_at}
use Rattle.plain_process.specs.declared.memory.Right.TheVariants.{Read}
use Rattle.process_memory.proofs.Fronts.{FrontSoFar}
use Rattle.process_memory.proofs.front.front_of_span.Given as goal

abbrev pub invariant-loop-index : goal.invariant-loop-index
invariant-loop-index l = (given : List ℕ) → bytes_at l.space Read l.at.address l.at.length ≡ Some given → FrontSoFar given l.index l.front

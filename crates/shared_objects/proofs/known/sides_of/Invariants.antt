use Rattle.std.proofs.Common.{take}
use Rattle.shared_objects.specs.Known.{KnowsSides}
use Rattle.shared_objects.proofs.known.sides_of.Given as goal

abbrev pub invariant-loop-description : goal.invariant-loop-description
invariant-loop-description l = KnowsSides l.sides (take l.description-index l.descriptions)

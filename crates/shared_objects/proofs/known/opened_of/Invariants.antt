use Rattle.std.proofs.Common.{take}
use Rattle.shared_objects.specs.Known.{KnowsOpened}
use Rattle.shared_objects.proofs.known.opened_of.Given as goal

abbrev pub invariant-loop-description : goal.invariant-loop-description
invariant-loop-description l = KnowsOpened l.opened (take l.description-index l.descriptions)

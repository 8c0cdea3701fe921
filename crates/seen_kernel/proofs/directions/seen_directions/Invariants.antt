use Rattle.std.proofs.Common.{◌≡◌, drop}
use Rattle.std.specs.FinMap as map
use Rattle.seen_kernel.specs.Directions.{with_lists}
use Rattle.seen_kernel.proofs.directions.seen_directions.Given as goal

-- the lists that are left will make the same of what is there as all do of nothing
abbrev pub invariant-loop-list : goal.invariant-loop-list
invariant-loop-list l =
    with_lists l.net.channels l.seen (drop l.list-index l.lists)
    ≡ with_lists l.net.channels map.empty l.lists

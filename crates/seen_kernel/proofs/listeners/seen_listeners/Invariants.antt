use Rattle.std.proofs.Common.{◌≡◌}
use Rattle.std.specs.FinMap as map
use Rattle.seen_kernel.specs.Listeners.{with_descriptions}
use Rattle.seen_kernel.proofs.listeners.seen_listeners.Given as goal

-- what is left will make the same of what is there as all do of nothing
abbrev pub invariant-loop-description : goal.invariant-loop-description
invariant-loop-description l =
    with_descriptions l.net.listeners l.ids.addresses l.seen l.description-iterator
    ≡ with_descriptions l.net.listeners l.ids.addresses map.empty (map.values l.descriptions)

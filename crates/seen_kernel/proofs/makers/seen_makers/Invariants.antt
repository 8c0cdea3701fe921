use Rattle.std.proofs.Common.{◌≡◌}
use Rattle.std.specs.FinMap as map
use Rattle.seen_kernel.specs.Makers.{with_makers}
use Rattle.seen_kernel.proofs.makers.seen_makers.Given as goal

-- those that are left will make the same of what is there as all do of nothing
abbrev pub invariant-loop-p : goal.invariant-loop-p
invariant-loop-p l =
    with_makers l.conns.makers l.seen l.p-iterator
    ≡ with_makers l.conns.makers map.empty (map.keys l.processes)

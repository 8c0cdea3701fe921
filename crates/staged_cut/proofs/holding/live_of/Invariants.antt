use Rattle.std.proofs.Common.{◌≡◌, ◌++◌}
use Rattle.std.specs.FinMap as map
use Rattle.staged_cut.proofs.holding.live_of.Given as goal

-- those that are listed stand before those that are left
abbrev pub invariant-loop-p : goal.invariant-loop-p
invariant-loop-p l = l.live ++ l.p-iterator ≡ map.keys l.guests

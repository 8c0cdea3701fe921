use Rattle.std.proofs.Common.{◌≡◌, drop}
use Rattle.wire_net.specs.DrainedNets.{list_on}
use Rattle.refill_core.proofs.beginning.list_place.Given as goal

abbrev pub invariant-loop-place : goal.invariant-loop-place
invariant-loop-place l = list_on l.d (drop l.place l.lists) ≡ list_on l.d l.lists

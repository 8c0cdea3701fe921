use Rattle.std.proofs.Common.{◌≡◌, take}
use Rattle.std.specs.FinMap as map
use Rattle.wire_net.specs.Networks as networks
use Rattle.seen_kernel.proofs.listeners.waiting_at.Given as goal

abbrev pub invariant-loop-place : goal.invariant-loop-place
invariant-loop-place l = l.queue ≡ take l.place (networks.waiting_at (map.get l.net.listeners l.at))

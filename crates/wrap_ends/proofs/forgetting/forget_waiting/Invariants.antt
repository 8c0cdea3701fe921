use Rattle.std.proofs.Common.{◌≡◌, drop}
use Rattle.std.specs.FinMap as map
use Rattle.wire_net.specs.Networks.{waiting_at}
use Rattle.wrap_ends.proofs.Waiting.{without_queue}
use Rattle.wrap_ends.proofs.forgetting.forget_waiting.Given as goal

abbrev pub invariant-loop-place : goal.invariant-loop-place
invariant-loop-place l =
    let queue = waiting_at (map.get l.net.listeners l.at) in
    without_queue l.conns (drop l.place queue) ≡ without_queue l.fn.conns queue

use Rattle.std.proofs.Common.{◌≡◌, false, take}
use Rattle.std.specs.List.{list_any}
use Rattle.std.specs.Ordering.{eq_by_cmp}
use Rattle.std.specs.FinMap as map
use Rattle.std.specs.Option.{option_map_or}
use Rattle.sys_abi.specs.Orders.{conn_cmp}
use Rattle.wire_channels.specs.declared.listener.Listener.{Listener}
use Rattle.leader_vote.proofs.agents.waits_at.Given as goal

abbrev pub invariant-loop-place : goal.invariant-loop-place
invariant-loop-place l =
    option_map_or (λ (x : Listener). list_any (eq_by_cmp conn_cmp l.conn) (take l.place x.queue))
    (map.get l.net.listeners l.at) false ≡ false

-- How far a network and a directory have come while they are made: a walk goes over the listeners, and one
-- over the channels, and rest is what it has not come to.
--     is_left R rest q             the walk has not come to the key
--     AreFilled k done real        exactly the channels that are done are there, with their bytes
--     AreReached h k done m        those that are done, with two open sides, were published and looked up
--     is_done_waiting, is_done     the connection waits at a listener that the walk has come to;  the channel
--                                  does, or the walk over the channels has come to it
--     IsListened h k rest ids net  the listeners that the walk has come to are there, with what waits at them
use Rattle.std.specs.Prelude.{◌≡◌, ◌≤◌, ◌&&◌, ◌||◌, not, Bool, true, List, Some, None, is_some, if◌then◌else◌}
use Rattle.std.specs.List.{list_any}
use Rattle.std.specs.Ordering.{eq_by_cmp}
use Rattle.std.specs.declared.cmp.Ordering.{Ordering}
use Rattle.std.specs.FinMap as map
use Rattle.views.specs.Seen.{Agree}
use Rattle.sys_abi.specs.declared.identity.ConnId.{ConnId}
use Rattle.sys_abi.specs.declared.identity.RealAddr.{RealAddr}
use Rattle.sys_abi.specs.declared.identity.VirtAddr.{VirtAddr}
use Rattle.sys_abi.specs.Orders.{address_cmp, conn_cmp}
use Rattle.plain_tables.specs.declared.channel.Channel.{Channel}
use Rattle.plain_tables.specs.declared.channel.Listening.{Listening}
use Rattle.plain_tables.specs.Objects.{is_queued, is_pending}
use Rattle.plain_machine.specs.declared.kernel.PlainKernel.{PlainKernel}
use Rattle.virt_ids.specs.Pairs.{Pairs}
use Rattle.discovery.specs.Directories.{Publications}
use Rattle.wire_channels.specs.Channels.{Channels}
use Rattle.wire_net.specs.Networks.{Network}
use Rattle.host_tables.specs.declared.kernel.Hosts.{Hosts}
use Rattle.host_tables.specs.Network.{SameListener}
use Rattle.rebuild_tables.specs.Hosts.{node_at}
use Rattle.rebuild_tables.specs.Filled.{IsFilled}
use Rattle.rebuild_system.specs.Nets.{IsReached}

abbrev pub is_left : {K X : Type 0} → (K → K → Ordering) → List (K × X) → K → Bool
is_left R rest q = list_any (λ e. eq_by_cmp R q e.0) rest

abbrev pub AreFilled : PlainKernel → (ConnId → Bool) → Channels → Type 0
AreFilled k done real = (id : ConnId)
    → Agree (IsFilled k.directions id) (if done id then map.get k.channels id else None) (map.get real id)

abbrev pub AreReached : Hosts → PlainKernel → (ConnId → Bool) → Publications → Type 0
AreReached h k done m = (id : ConnId) (channel : Channel) → done id ≡ true
    → map.get k.channels id ≡ Some channel → channel.first.is_open ≡ true → channel.second.is_open ≡ true
    → IsReached h k id channel m

abbrev pub is_done_waiting : PlainKernel → List (VirtAddr × Listening) → ConnId → Bool
is_done_waiting k rest id = is_pending k.listeners id && not (list_any (λ e. is_queued id e.1) rest)

abbrev pub is_done : PlainKernel → List (ConnId × Channel) → ConnId → Bool
is_done k rest id = is_pending k.listeners id || not (is_left conn_cmp rest id)

pub record IsListened (h : Hosts) (k : PlainKernel) (rest : List (VirtAddr × Listening)) (ids : Pairs)
    (net : Network) : Type 0 where
  pub base : net.port_base ≡ h.port_base
  pub places : (a : VirtAddr) → is_some (map.get ids.addresses a)
      ≡ (is_some (map.get k.listeners a) && not (is_left address_cmp rest a))
  pub node : (a : VirtAddr) (at : RealAddr) → map.get ids.addresses a ≡ Some at → at.node ≡ node_at h a.host
  pub ports : (a : VirtAddr) (at : RealAddr) → map.get ids.addresses a ≡ Some at → h.port_base ≤ at.port
  pub same : (a : VirtAddr) (at : RealAddr) → map.get ids.addresses a ≡ Some at
      → Agree (SameListener a at) (map.get k.listeners a) (map.get net.listeners at)
  pub alone : (at : RealAddr) → map.get ids.ports at ≡ None → map.get net.listeners at ≡ None
  pub channels : AreFilled k (is_done_waiting k rest) net.channels

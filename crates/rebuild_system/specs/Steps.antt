-- What each step of the making does.
--     is_among ids id                    the channel is one of the list
--     with_queue ids listener            these connections wait there too, behind the others
--     reached_at at                      what a directory has of a channel that was published there and was
--                                        looked up
--     HasFilled k id old new             the channel is there with its bytes, others are as before
--     AreJoined k which old new          those channels are there with their bytes, others are as before
--     AreFound at which old new          those were published there and looked up, others are as before
--     HasListener h k a x ..             the listener is there at a port of its host's node, with what waits
use Rattle.std.specs.Prelude.{◌≡◌, ◌≤◌, Bool, true, false, List, ◌++◌, Some, None}
use Rattle.std.specs.List.{list_any}
use Rattle.std.specs.Ordering.{eq_by_cmp}
use Rattle.std.specs.FinMap as map
use Rattle.views.specs.Seen.{Agree}
use Rattle.sys_abi.specs.declared.identity.ConnId.{ConnId}
use Rattle.sys_abi.specs.declared.identity.RealAddr.{RealAddr}
use Rattle.sys_abi.specs.declared.identity.VirtAddr.{VirtAddr}
use Rattle.sys_abi.specs.Orders.{conn_cmp}
use Rattle.plain_tables.specs.declared.channel.Channel as plain
use Rattle.plain_tables.specs.declared.channel.Listening.{Listening}
use Rattle.plain_tables.specs.Objects.{is_queued}
use Rattle.plain_machine.specs.declared.kernel.PlainKernel.{PlainKernel}
use Rattle.virt_ids.specs.Pairs.{Pairs}
use Rattle.discovery.specs.declared.publication.Publication.{Publication}
use Rattle.discovery.specs.Directories.{Publications}
use Rattle.wire_channels.specs.declared.channel.Channel.{Channel}
use Rattle.wire_channels.specs.declared.listener.Listener.{Listener}
use Rattle.wire_channels.specs.Channels.{Channels}
use Rattle.wire_net.specs.Networks.{Network}
use Rattle.host_tables.specs.declared.kernel.Hosts.{Hosts}
use Rattle.rebuild_tables.specs.Hosts.{node_at}
use Rattle.rebuild_tables.specs.Filled.{IsFilled}

abbrev pub is_among : List ConnId → ConnId → Bool
is_among ids id = list_any (eq_by_cmp conn_cmp id) ids

abbrev pub with_queue : List ConnId → Listener → Listener
with_queue ids listener = record listener { queue = listener.queue ++ ids }

abbrev pub reached_at : RealAddr → Publication
reached_at at = record { at = at; asked = true }

pub record HasFilled (k : PlainKernel) (id : ConnId) (old new : Channels) : Type 0 where
  pub plain_one : plain.Channel
  pub real_one : Channel
  pub there : map.get k.channels id ≡ Some plain_one
  pub filled : IsFilled k.directions id plain_one real_one
  pub channels : new ≡ map.insert old id real_one

pub record AreJoined (k : PlainKernel) (which : ConnId → Bool) (old new : Channels) : Type 0 where
  pub filled : (id : ConnId) → which id ≡ true
      → Agree (IsFilled k.directions id) (map.get k.channels id) (map.get new id)
  pub others : (id : ConnId) → which id ≡ false → map.get new id ≡ map.get old id

pub record AreFound (at : RealAddr) (which : ConnId → Bool) (old new : Publications) : Type 0 where
  pub found : (id : ConnId) → which id ≡ true → map.get new id ≡ Some (reached_at at)
  pub others : (id : ConnId) → which id ≡ false → map.get new id ≡ map.get old id

pub record HasListener (h : Hosts) (k : PlainKernel) (a : VirtAddr) (x : Listening) (old_ids new_ids : Pairs)
    (old new : Network) (before now : Publications) : Type 0 where
  pub at : RealAddr
  pub node : at.node ≡ node_at h a.host
  pub port : old.port_base ≤ at.port
  pub free : map.get old.listeners at ≡ None
  pub addresses : new_ids.addresses ≡ map.insert old_ids.addresses a at
  pub ports : new_ids.ports ≡ map.insert old_ids.ports at a
  pub base : new.port_base ≡ old.port_base
  pub listeners : new.listeners
      ≡ map.insert old.listeners at (record { backlog = x.backlog; queue = x.queue })
  pub channels : AreJoined k (λ id. is_queued id x) old.channels new.channels
  pub found : AreFound at (λ id. is_queued id x) before now

-- What it is for a network to have the listeners and channels of a kernel part, and for a directory to tell
-- where its channels were reached.
-- Source: `man 2 listen`, `man 2 accept`; the discovery service of DMTCP, where a restarted end that accepts
-- is advertised under the socket's name and the other end looks it up.
--     IsNet h k ids net            each listener is there at a port that is paired with its address, with the
--                                  connections that wait; each channel with its bytes; nothing else is
--     IsAtAccepting h k id kind node      it is the node of the end that accepts: for an internet connection
--                                  that of side 1's address, else that of all that hold side 0
--     ArePublished h k m           each channel with two open sides was published there, and looked up since
use Rattle.std.specs.Prelude.{◌≡◌, ◌≤◌, ℕ, true, Some, is_some}
use Rattle.std.specs.FinMap as map
use Rattle.views.specs.Seen.{Agree}
use Rattle.sys_abi.specs.declared.identity.ConnId.{ConnId}
use Rattle.sys_abi.specs.declared.identity.Slot.{Slot}
use Rattle.sys_abi.specs.declared.identity.RealAddr.{RealAddr}
use Rattle.sys_abi.specs.declared.identity.VirtAddr.{VirtAddr}
use Rattle.sys_abi.specs.declared.descriptor.Descriptor.{Descriptor}
use Rattle.sys_abi.specs.declared.maker.Maker.{Maker}
use Rattle.plain_tables.specs.declared.description.Description.{Description}
use Rattle.plain_tables.specs.declared.channel.Channel.{Channel}
use Rattle.plain_tables.specs.declared.channel.ChannelKind.{ChannelKind}
use Rattle.plain_tables.specs.declared.channel.ChannelKind.TheVariants.{Internet}
use Rattle.plain_tables.specs.Objects.{is_end, host_of_end}
use Rattle.plain_machine.specs.declared.kernel.PlainKernel.{PlainKernel}
use Rattle.virt_ids.specs.Pairs.{Pairs}
use Rattle.discovery.specs.Directories.{Publications, place_of, is_asked}
use Rattle.wire_net.specs.Networks.{Network}
use Rattle.host_tables.specs.declared.kernel.Hosts.{Hosts}
use Rattle.host_tables.specs.Network.{SameListeners}
use Rattle.rebuild_tables.specs.Hosts.{node_at, nodes_from}
use Rattle.rebuild_tables.specs.Filled.{IsFilled}

pub record IsNet (h : Hosts) (k : PlainKernel) (ids : Pairs) (net : Network) : Type 0 where
  pub places : (a : VirtAddr) → is_some (map.get ids.addresses a) ≡ is_some (map.get k.listeners a)
  pub ports : (a : VirtAddr) (at : RealAddr) → map.get ids.addresses a ≡ Some at → h.port_base ≤ at.port
  pub listeners : SameListeners (nodes_from h) ids.addresses ids.ports k.listeners net.listeners
  pub channels : (id : ConnId)
      → Agree (IsFilled k.directions id) (map.get k.channels id) (map.get net.channels id)

-- the process of this descriptor holds side 0 of the channel, and is of this host
pub record IsHolder (k : PlainKernel) (id : ConnId) (at : Slot) (host : ℕ) : Type 0 where
  pub descriptor : Descriptor
  pub description : Description
  pub maker : Maker
  pub held : map.get k.descriptors at ≡ Some descriptor
  pub described : map.get k.descriptions descriptor.desc ≡ Some description
  pub first : is_end id 0 description.object ≡ true
  pub made : map.get k.makers at.pid ≡ Some maker
  pub host_is : maker.host ≡ host

abbrev pub IsAtAccepting : Hosts → PlainKernel → ConnId → ChannelKind → ℕ → Type 0
IsAtAccepting h k id Internet node =
    (host : ℕ) → host_of_end k.channels id 1 ≡ Some host → node ≡ node_at h host
IsAtAccepting h k id _ node =
    (at : Slot) (host : ℕ) → IsHolder k id at host → node ≡ node_at h host

pub record IsReached (h : Hosts) (k : PlainKernel) (id : ConnId) (channel : Channel)
    (m : Publications) : Type 0 where
  pub at : RealAddr
  pub place : place_of m id ≡ Some at
  pub asked : is_asked m id ≡ true
  pub port : h.port_base ≤ at.port
  pub node : IsAtAccepting h k id channel.kind at.node

abbrev pub ArePublished : Hosts → PlainKernel → Publications → Type 0
ArePublished h k m = (id : ConnId) (channel : Channel) → map.get k.channels id ≡ Some channel
    → channel.first.is_open ≡ true → channel.second.is_open ≡ true → IsReached h k id channel m

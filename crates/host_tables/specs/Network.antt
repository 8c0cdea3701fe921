-- Channels, their directions and listeners through the pairs.
-- Source: `man 2 socketpair`, `man 7 pipe`, `man 2 listen`; DMTCP promotes pipes to pairs of sockets.
--     SameChannels        kinds and addresses are those of the table, open ends those of the network
--     SameDirections      the bytes are wherever they stand; flags agree
--     SameListeners       by their addresses
use Rattle.std.specs.Prelude.{◌≡◌, ◌==◌, ℕ, ◌-◌, ◌<◌, ◌≤◌, Bool, true, false, List, length, slice_index_or, Option, Some, None, IsSome, option_map, option_and_then, if◌then◌else◌}
use Rattle.std.specs.FinMap as map
use Rattle.std.specs.FinMap.{FinMap}
use Rattle.views.specs.Seen.{Agree, SeenBy}
use Rattle.sys_abi.specs.declared.identity.ConnId.{ConnId}
use Rattle.sys_abi.specs.declared.identity.Dir.{Dir}
use Rattle.sys_abi.specs.declared.identity.RealAddr.{RealAddr}
use Rattle.sys_abi.specs.declared.identity.VirtAddr.{VirtAddr}
use Rattle.sys_abi.specs.Orders.{conn_cmp, real_address_cmp}
use Rattle.conn_table.specs.declared.conn.Conn.{Conn}
use Rattle.proc_book.specs.OfVirtIds.Pairs.{AreInverse}
use Rattle.plain_machine.specs.OfPlainTables.declared.channel.Channel as plain
use Rattle.plain_machine.specs.OfPlainTables.declared.channel.ChannelEnd.{ChannelEnd}
use Rattle.plain_machine.specs.OfPlainTables.declared.channel.ChannelKind.{ChannelKind}
use Rattle.plain_machine.specs.OfPlainTables.declared.channel.ChannelKind.TheVariants.{Pair, Internet, Pipe}
use Rattle.plain_machine.specs.OfPlainTables.declared.channel.Direction as plain_direction
use Rattle.plain_machine.specs.OfPlainTables.declared.channel.Listening.{Listening}
use Rattle.plain_machine.specs.OfPlainTables.Tables.{Channels, Directions, Listeners}
use Rattle.plain_machine.specs.SocketWords.{is_pipe}
use Rattle.wire_net.specs.OfWireChannels.declared.channel.Channel.{Channel}
use Rattle.wire_net.specs.OfWireChannels.declared.listener.Listener.{Listener}
use Rattle.wire_net.specs.OfWireChannels.Directions.{Direction}
use Rattle.wire_net.specs.OfWireChannels.Channels as channels
use Rattle.wire_net.specs.OfWireChannels.Listeners as listeners
use Rattle.wire_net.specs.Networks.{Network}
use Rattle.wire_net.specs.Whereabouts.{whereabouts}
use Rattle.host_tables.specs.Numbers.{node_of}
use Rattle.host_tables.specs.Descriptions.{Stage, agents_of, Addresses}

-- channels

abbrev pub Conns : Type 0
Conns = FinMap conn_cmp Conn

abbrev pub kind_of : ℕ → ChannelKind
kind_of kind = if kind == 0 then Pair else if kind == 1 then Internet else Pipe

abbrev pub seen_end : Channel → Conn → ℕ → ChannelEnd
seen_end channel conn side =
    record {
      address = slice_index_or conn.addr side None;
      is_open = slice_index_or channel.open_ends side false;
    }

abbrev pub seen_channel : Channel → Conn → plain.Channel
seen_channel channel conn =
    record { kind = kind_of conn.kind; first = seen_end channel conn 0; second = seen_end channel conn 1 }

-- the table is read at the channels of the network alone
pub record SameChannels (conns : Conns) (virt : Channels) (real : channels.Channels) : Type 0 where
  pub each : (id : ConnId) → map.get virt id
      ≡ option_and_then (λ channel. option_map (seen_channel channel) (map.get conns id)) (map.get real id)
  pub listed : (id : ConnId) → IsSome (map.get real id) → IsSome (map.get conns id)
  pub sides : (id : ConnId) (channel : Channel) → map.get real id ≡ Some channel
      → length channel.open_ends ≡ 2

-- directions

abbrev pub is_pipe_conn : Option Conn → Bool
is_pipe_conn None = false
is_pipe_conn (Some conn) = is_pipe (kind_of conn.kind)

-- while no stage of a checkpoint holds the system what has arrived can be received
abbrev pub HasArrived : Option Stage → ℕ → ℕ → Type 0
HasArrived None received arrived = arrived ≡ received
HasArrived (Some stage) received arrived = Unit {0}

pub record SameDirection (t : Network) (held : Option Stage) (d : Dir)
    (x : plain_direction.Direction) (y : Direction) : Type 0 where
  pub left : x.left ≡ whereabouts t (agents_of held) d
  pub ended : x.ended ≡ y.is_ended
  pub unread : x.unread ≡ y.is_unread
  pub arrived : HasArrived held (length y.received) x.arrived

-- a closed end sends no more and is not read
pub record IsSilent (side : ℕ) (channel : Channel) : Type 0 where
  pub ended : (channels.direction_of side channel).is_ended ≡ true
  pub unread : (channels.direction_of (1 - side) channel).is_unread ≡ true

pub record SameDirections (t : Network) (held : Option Stage) (virt : Directions) : Type 0 where
  pub at : (d : Dir) → d.side < 2
      → Agree (SameDirection t held d) (map.get virt d) (channels.direction_at t.channels d)
  pub no_other : (d : Dir) → 2 ≤ d.side → map.get virt d ≡ None
  pub closed : (id : ConnId) (channel : Channel) (side : ℕ) → map.get t.channels id ≡ Some channel
      → side < 2 → slice_index_or channel.open_ends side true ≡ false → IsSilent side channel

-- listeners

-- the virtual address that is listened at each port
abbrev pub Ports : Type 0
Ports = FinMap real_address_cmp VirtAddr

pub record SameListener (a : VirtAddr) (at : RealAddr) (x : Listening) (y : Listener) : Type 0 where
  pub backlog : x.backlog ≡ y.backlog
  pub queue : x.queue ≡ y.queue

pub record SameListeners (nodes : List ℕ) (addresses : Addresses) (ports : Ports) (virt : Listeners)
    (real : listeners.Listeners) : Type 0 where
  pub inverse : AreInverse addresses ports
  pub node : (a : VirtAddr) (at : RealAddr) → map.get addresses a ≡ Some at → at.node ≡ node_of nodes a.host
  pub each : SeenBy (map.get addresses) (map.get ports) SameListener virt real

-- Words on what open descriptions stand for, and on the sides of channels.
-- Source: `man 2 open`, `man 2 socketpair`, `man 2 listen`.
--     is_file number, is_end conn side, is_listener_at address, is_datagram, knows d      what an object is
--     bound_at, end_of, host_of_end, host_of_object      addresses and hosts
--     is_named descriptions listeners conn side      a stream refers to the side, or it waits to be accepted
--     is_kept names descriptions number                  the file has a name, or is open
use Rattle.std.specs.Prelude.{◌==◌, ◌&&◌, ◌||◌, ℕ, Bool, true, false, Option, Some, None, option_map, option_and_then, if◌then◌else◌}
use Rattle.std.specs.List.{list_any}
use Rattle.std.specs.Ordering.{eq_by_cmp}
use Rattle.std.specs.FinMap as map
use Rattle.id_maps.specs.OfSysAbi.declared.identity.DescId.{DescId}
use Rattle.id_maps.specs.OfSysAbi.declared.identity.ConnId.{ConnId}
use Rattle.id_maps.specs.OfSysAbi.declared.identity.Dir.{Dir}
use Rattle.id_maps.specs.OfSysAbi.declared.identity.VirtAddr.{VirtAddr}
use Rattle.id_maps.specs.OfSysAbi.Orders.{desc_cmp, conn_cmp, address_cmp}
use Rattle.plain_tables.specs.declared.description.Description.{Description}
use Rattle.plain_tables.specs.declared.description.Object.{Object}
use Rattle.plain_tables.specs.declared.description.Object.TheVariants.{File, Stream, Socket, Listener, Datagram}
use Rattle.plain_tables.specs.declared.channel.Channel.{Channel}
use Rattle.plain_tables.specs.declared.channel.ChannelEnd.{ChannelEnd}
use Rattle.plain_tables.specs.declared.channel.Listening.{Listening}
use Rattle.plain_tables.specs.Tables.{Names, Descriptions, Channels, Listeners}

abbrev pub dir : ConnId → ℕ → Dir
dir conn side = record { conn = conn; side = side }

abbrev pub is_file : ℕ → Object → Bool
is_file number (File n offset) = n == number
is_file number _ = false

abbrev pub is_end : ConnId → ℕ → Object → Bool
is_end conn side (Stream other at) = eq_by_cmp conn_cmp conn other && (side == at)
is_end conn side _ = false

abbrev pub is_listener_at : VirtAddr → Object → Bool
is_listener_at address (Listener other) = eq_by_cmp address_cmp address other
is_listener_at address _ = false

abbrev pub is_datagram : Object → Bool
is_datagram (Datagram peer) = true
is_datagram _ = false

-- an end of a datagram pair knows the other end
abbrev pub knows : DescId → Object → Bool
knows d (Datagram peer) = eq_by_cmp desc_cmp d peer
knows d _ = false

-- the address of a socket or a listener, if it is bound
abbrev pub bound_at : Object → Option VirtAddr
bound_at (Socket address) = if address.port == 0 then None else Some address
bound_at (Listener address) = Some address
bound_at _ = None

abbrev pub end_of : Channel → ℕ → ChannelEnd
end_of channel side = if side == 0 then channel.first else channel.second

abbrev pub host_of_end : Channels → ConnId → ℕ → Option ℕ
host_of_end channels conn side =
    option_map (λ address. address.host)
    (option_and_then (λ channel. (end_of channel side).address) (map.get channels conn))

-- the host of a socket, a listener or an end of an internet connection
abbrev pub host_of_object : Channels → Object → Option ℕ
host_of_object channels (Socket address) = Some address.host
host_of_object channels (Listener address) = Some address.host
host_of_object channels (Stream conn side) = host_of_end channels conn side
host_of_object channels _ = None

abbrev pub is_queued : ConnId → Listening → Bool
is_queued conn listening = list_any (eq_by_cmp conn_cmp conn) listening.queue

abbrev pub has_stream : Descriptions → ConnId → ℕ → Bool
has_stream descriptions conn side =
    list_any (λ (x : Description). is_end conn side x.object) (map.values descriptions)

-- a connection waits to be accepted
abbrev pub is_pending : Listeners → ConnId → Bool
is_pending listeners conn = list_any (is_queued conn) (map.values listeners)

abbrev pub is_named : Descriptions → Listeners → ConnId → ℕ → Bool
is_named descriptions listeners conn side =
    has_stream descriptions conn side || ((side == 1) && is_pending listeners conn)

abbrev pub has_name : Names → ℕ → Bool
has_name names number = list_any (λ n. n == number) (map.values names)

abbrev pub has_open : Descriptions → ℕ → Bool
has_open descriptions number =
    list_any (λ (x : Description). is_file number x.object) (map.values descriptions)

abbrev pub is_kept : Names → Descriptions → ℕ → Bool
is_kept names descriptions number = has_name names number || has_open descriptions number

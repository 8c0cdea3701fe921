-- The channels of a table with their ends, as a kernel part has them.
-- Source: `man 2 socketpair`, `man 7 pipe`, `man 7 tcp`.
--     channel_of conn                 the channel: its kind, and its ends with their addresses
--     SameEnds conns channels         the network has the same channels, with the same ends open
--     with_channel conns seen id      and this channel, if it is there
--     AreChannels conns seen          these are the channels of each kernel part for which the table stands beside
--                                     a network
use Rattle.std.specs.Prelude.{◌≡◌, ℕ, Bool, false, List, slice_index_or, Option, None, option_map}
use Rattle.std.specs.Option.{option_map_or}
use Rattle.std.specs.FinMap as map
use Rattle.sys_abi.specs.declared.identity.ConnId.{ConnId}
use Rattle.conn_table.specs.declared.conn.Conn.{Conn}
use Rattle.plain_tables.specs.declared.channel.Channel as plain
use Rattle.plain_tables.specs.declared.channel.ChannelEnd.{ChannelEnd}
use Rattle.plain_tables.specs.Tables.{Channels}
use Rattle.wire_channels.specs.declared.channel.Channel.{Channel}
use Rattle.wire_channels.specs.Channels as channels
use Rattle.host_tables.specs.Network.{Conns, kind_of, SameChannels}

abbrev pub end_with : Conn → List Bool → ℕ → ChannelEnd
end_with conn open_ends side = record {
  address = slice_index_or conn.addr side None;
  is_open = slice_index_or open_ends side false;
}

abbrev pub channel_with : Conn → List Bool → plain.Channel
channel_with conn open_ends = record {
  kind = kind_of conn.kind;
  first = end_with conn open_ends 0;
  second = end_with conn open_ends 1;
}

abbrev pub channel_of : Conn → plain.Channel
channel_of conn = channel_with conn conn.open_ends

abbrev pub ends_of : Option Channel → Option (List Bool)
ends_of found = option_map (λ (channel : Channel). channel.open_ends) found

abbrev pub SameEnds : Conns → channels.Channels → Type 0
SameEnds conns real =
    (id : ConnId) → option_map (λ (conn : Conn). conn.open_ends) (map.get conns id)
    ≡ ends_of (map.get real id)

abbrev pub with_channel : Conns → Channels → ConnId → Channels
with_channel conns seen id =
    option_map_or (λ (conn : Conn). map.insert seen id (channel_of conn)) (map.get conns id) seen

abbrev pub AreChannels : Conns → Channels → Type 0
AreChannels conns seen =
    (real : channels.Channels) (channels : Channels) → SameChannels conns channels real → SameEnds conns real
    → seen ≡ channels

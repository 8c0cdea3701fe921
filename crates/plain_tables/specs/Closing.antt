-- What closing a side of a channel leaves, and a file that is no longer open.
-- Source: `man 2 close`, `man 7 pipe`, `man 2 unlink`; that a reader's bytes go with it is this project's own
-- rule.
--     closed_channels, closed_directions      the channels and directions after a side closed
--     without_unkept                          the files after one may have lost its last user
use Rattle.std.specs.Prelude.{◌==◌, ℕ, ◌-◌, true, false, List, [], ◌∷◌, Option, Some, None, if◌then◌else◌}
use Rattle.std.specs.FinMap as map
use Rattle.id_maps.specs.OfSysAbi.declared.identity.ConnId.{ConnId}
use Rattle.plain_tables.specs.declared.channel.Channel.{Channel}
use Rattle.plain_tables.specs.declared.channel.ChannelEnd.{ChannelEnd}
use Rattle.plain_tables.specs.declared.channel.Direction.{Direction}
use Rattle.plain_tables.specs.Tables.{Names, Files, Descriptions, Channels, Directions, changed_at}
use Rattle.plain_tables.specs.Objects.{dir, end_of, is_kept}

abbrev pub closed_end : ChannelEnd → ChannelEnd
closed_end end = record end { is_open = false }

abbrev pub with_closed : ℕ → Channel → Channel
with_closed side channel =
    if side == 0 then record channel { first = closed_end channel.first } else
    record channel { second = closed_end channel.second }

-- nothing more is sent
abbrev pub with_end : Direction → Direction
with_end direction = record direction { ended = true }

-- nothing more is read, and what was there is gone
abbrev pub without_reader : Direction → Direction
without_reader direction = record { left = []; arrived = 0; ended = direction.ended; unread = true }

-- a side sends no more, and reads no more
unfoldable pub silenced : Directions → ConnId → ℕ → Directions
silenced directions conn side =
    changed_at (changed_at directions (dir conn side) with_end) (dir conn (1 - side)) without_reader

-- a channel of which no side is open is gone

abbrev pub closed_channels_by : Channels → ConnId → ℕ → Option Channel → Channels
closed_channels_by channels conn side None = channels
closed_channels_by channels conn side (Some channel) =
    if (end_of channel (1 - side)).is_open then map.insert channels conn (with_closed side channel) else
    map.remove channels conn

unfoldable pub closed_channels : Channels → ConnId → ℕ → Channels
closed_channels channels conn side = closed_channels_by channels conn side (map.get channels conn)

abbrev pub closed_directions_by : Directions → ConnId → ℕ → Option Channel → Directions
closed_directions_by directions conn side None = directions
closed_directions_by directions conn side (Some channel) =
    if (end_of channel (1 - side)).is_open then silenced directions conn side else
    map.remove (map.remove directions (dir conn 0)) (dir conn 1)

unfoldable pub closed_directions : Channels → Directions → ConnId → ℕ → Directions
closed_directions channels directions conn side =
    closed_directions_by directions conn side (map.get channels conn)

-- the accepting sides of connections close, one after the other

unfoldable pub pending_channels : Channels → List ConnId → Channels
pending_channels channels [] = channels
pending_channels channels (conn ∷ rest) = pending_channels (closed_channels channels conn 1) rest

unfoldable pub pending_directions : Channels → Directions → List ConnId → Directions
pending_directions channels directions [] = directions
pending_directions channels directions (conn ∷ rest) =
    pending_directions (closed_channels channels conn 1) (closed_directions channels directions conn 1) rest

-- a file without a name that is not open is gone
unfoldable pub without_unkept : Names → Descriptions → Files → ℕ → Files
without_unkept names descriptions files number =
    if is_kept names descriptions number then files else map.remove files number

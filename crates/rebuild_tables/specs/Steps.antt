-- What each step of filling a channel does to it.
--     with_bytes bytes            a direction that was empty, with these bytes, which can all be read
--     filled_as x                 one that has the bytes and the flags of the kernel part's
--     filled found                likewise, where the kernel part's may not be there
--     with_direction m d y        the direction is y now, if its channel is there
--     ended_if, unread_if         the direction, ended or unread where that is so
--     closed_unless               the end of a side is closed unless it is open
use Rattle.std.specs.Prelude.{ℕ, Bool, true, false, List, length, Option, Some, None}
use Rattle.sys_abi.specs.declared.identity.ConnId.{ConnId}
use Rattle.sys_abi.specs.declared.identity.Dir.{Dir}
use Rattle.plain_tables.specs.declared.channel.Direction as plain_direction
use Rattle.wire_channels.specs.Channels.{Channels, at_direction, after_close}
use Rattle.wire_channels.specs.Directions.{Direction, unused, after_end, after_stop_reading}

abbrev pub with_bytes : List ℕ → Direction
with_bytes bytes = record unused { received = bytes; carried = length bytes }

abbrev pub filled_as : plain_direction.Direction → Direction
filled_as x = record (with_bytes x.left) { is_ended = x.ended; is_unread = x.unread }

abbrev pub filled : Option plain_direction.Direction → Direction
filled None = unused
filled (Some x) = filled_as x

abbrev pub with_direction : Channels → Dir → Direction → Channels
with_direction m d y = at_direction m d (λ _. y)

abbrev pub ended_if : Bool → Direction → Direction
ended_if true y = after_end y
ended_if false y = y

abbrev pub unread_if : Bool → Direction → Direction
unread_if true y = after_stop_reading y
unread_if false y = y

abbrev pub closed_unless : Bool → ℕ → Channels → ConnId → Channels
closed_unless true side m id = m
closed_unless false side m id = after_close side m id

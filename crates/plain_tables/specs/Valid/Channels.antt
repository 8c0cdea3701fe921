-- What holds of the channels of every kernel part, of their directions, and of the streams at their ends.
-- Source: the limits of docs/MACHINE.md; `man 2 socketpair`, `man 7 pipe`, `man 2 shutdown`.
--     AreChannels, AreStreams      a topic each, over the tables that it speaks of
use Rattle.std.specs.Prelude.{◌≡◌, ℕ, ◌-◌, ◌==◌, ◌&&◌, ◌||◌, ◌<◌, ◌≤◌, ◌%◌, nat_lt, true, false, [], length, Option, Some, None, is_some, All, if◌then◌else◌}
use Rattle.std.specs.FinMap as map
use Rattle.plain_process.specs.OfViews.Numbers.{Flags}
use Rattle.plain_process.specs.OfViews.Limits.{HOST_LIMIT, CHANNEL_LIMIT, DIRECTION_LIMIT}
use Rattle.id_maps.specs.OfSysAbi.declared.identity.DescId.{DescId}
use Rattle.id_maps.specs.OfSysAbi.declared.identity.ConnId.{ConnId}
use Rattle.id_maps.specs.OfSysAbi.declared.identity.Dir.{Dir}
use Rattle.id_maps.specs.OfSysAbi.declared.identity.VirtAddr.{VirtAddr}
use Rattle.plain_process.specs.Valid.{IsByte, Each}
use Rattle.plain_tables.specs.declared.description.Description.{Description}
use Rattle.plain_tables.specs.declared.description.Object.{Object}
use Rattle.plain_tables.specs.declared.description.Object.TheVariants.{Stream}
use Rattle.plain_tables.specs.declared.channel.Channel.{Channel}
use Rattle.plain_tables.specs.declared.channel.ChannelKind.{ChannelKind}
use Rattle.plain_tables.specs.declared.channel.ChannelKind.TheVariants.{Internet, Pipe}
use Rattle.plain_tables.specs.declared.channel.Direction.{Direction}
use Rattle.plain_tables.specs.Tables.{Descriptions, Channels, Directions, Listeners}
use Rattle.plain_tables.specs.Objects.{dir, end_of, is_end, has_stream, is_pending, is_named}

-- at most 65,536 unread bytes, of which no more have arrived than there are
pub record IsDirection (direction : Direction) : Type 0 where
  pub arrived : direction.arrived ≤ length direction.left
  pub size : length direction.left ≤ DIRECTION_LIMIT
  pub bytes : All IsByte direction.left
  pub unread : direction.unread ≡ true → direction.left ≡ []

-- the sides of an internet connection, and of no other channel, have addresses
abbrev pub HasAddress : ChannelKind → Option VirtAddr → Type 0
HasAddress Internet (Some address) = (address.host < HOST_LIMIT) × (address.port < 65536)
HasAddress Internet None = ⊥
HasAddress _ (Some address) = ⊥
HasAddress _ None = Unit {0}

-- a side that is closed sends no more, and reads no more
pub record IsClosed (out inward : Option Direction) : Type 0 where
  pub ended : (direction : Direction) → out ≡ Some direction → direction.ended ≡ true
  pub unread : (direction : Direction) → inward ≡ Some direction → direction.unread ≡ true

-- at most 256 channels, each open at a side; they and no others have both directions
pub record AreChannels (channels : Channels) (directions : Directions) : Type 0 where
  pub count : map.len channels ≤ CHANNEL_LIMIT
  pub sides : (at : Dir) → is_some (map.get directions at)
      ≡ (nat_lt at.side 2 && is_some (map.get channels at.conn))
  pub addresses : Each channels (λ conn channel.
      HasAddress channel.kind channel.first.address × HasAddress channel.kind channel.second.address)
  pub open_end : Each channels (λ conn channel. (channel.first.is_open || channel.second.is_open) ≡ true)
  pub each : Each directions (λ at direction. IsDirection direction)
  pub pipes : (conn : ConnId) (channel : Channel) (direction : Direction)
      → map.get channels conn ≡ Some channel → channel.kind ≡ Pipe
      → map.get directions (dir conn 1) ≡ Some direction → direction.left ≡ []
  pub closed : (conn : ConnId) (side : ℕ) (channel : Channel)
      → map.get channels conn ≡ Some channel → side < 2
      → (end_of channel side).is_open ≡ false
      → IsClosed (map.get directions (dir conn side)) (map.get directions (dir conn (1 - side)))

-- a pipe is written at side 0 and read at side 1
pub record MayBeEnd (channel : Channel) (flags side : ℕ) : Type 0 where
  pub is_side : side < 2
  pub mode : channel.kind ≡ Pipe → flags % 4 ≡ (if side == 0 then 1 else 0)

abbrev pub IsStream : Channels → Flags → Object → Type 0
IsStream channels flags (Stream conn side) =
    (channel : Channel) × (map.get channels conn ≡ Some channel) × MayBeEnd channel flags side
IsStream channels flags _ = Unit {0}

-- an open side is that of one stream, or waits in a listener's queue; a closed one is neither
pub record AreStreams (descriptions : Descriptions) (listeners : Listeners)
    (channels : Channels) : Type 0 where
  pub each : Each descriptions (λ d description. IsStream channels description.flags description.object)
  pub once : (d e : DescId) (x y : Description) (conn : ConnId) (side : ℕ) → map.get descriptions d ≡ Some x
      → map.get descriptions e ≡ Some y → is_end conn side x.object ≡ true → is_end conn side y.object ≡ true
      → d ≡ e
  pub apart : (conn : ConnId) → has_stream descriptions conn 1 ≡ true → is_pending listeners conn ≡ false
  pub opened : (conn : ConnId) (channel : Channel) (side : ℕ)
      → map.get channels conn ≡ Some channel → side < 2
      → (end_of channel side).is_open ≡ is_named descriptions listeners conn side

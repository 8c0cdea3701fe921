-- What stays of channels where bytes only pass on: which are there, which directions are ended or unread, and
-- which ends are open.
-- Source: `man 2 shutdown`, `man 2 close`.
--     flags_of direction        whether it is ended, and whether it is unread
--     frame_of channel          the flags of its two directions, and which ends are open
--     SameFrames before after   the same channels are there, each with the same of these
use Rattle.std.specs.Prelude.{◌≡◌, Bool, List, option_map}
use Rattle.std.specs.FinMap as map
use Rattle.virt_ids.specs.OfSysAbi.declared.identity.ConnId.{ConnId}
use Rattle.wire_channels.specs.declared.channel.Channel.{Channel}
use Rattle.wire_channels.specs.Channels.{Channels}
use Rattle.wire_channels.specs.Directions.{Direction}

pub record Flags : Type 0 where
  pub is_ended : Bool
  pub is_unread : Bool

pub record Frame : Type 0 where
  pub first : Flags
  pub second : Flags
  pub open_ends : List Bool

abbrev pub flags_of : Direction → Flags
flags_of direction = record { is_ended = direction.is_ended; is_unread = direction.is_unread }

abbrev pub frame_of : Channel → Frame
frame_of channel = record { first = flags_of channel.first; second = flags_of channel.second; open_ends = channel.open_ends }

abbrev pub SameFrames : Channels → Channels → Type 0
SameFrames before after = (id : ConnId) → option_map frame_of (map.get after id) ≡ option_map frame_of (map.get before id)

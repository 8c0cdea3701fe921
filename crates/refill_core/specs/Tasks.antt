-- What an agent does in a refill with the two directions of a live channel, of which it sends the one and
-- reads the other.
-- Source: the DMTCP paper (IPDPS 2009), "refill kernel buffers": drained bytes are sent back to the side that
-- sent them, which sends them again. The frame in which they go back is this project's own profile.
-- x has the notes on the direction that the agent sends, y those on the other one. The bytes that were
-- drained of a direction go back in a frame on the other one; behind the frame of y's bytes x's own are sent
-- again.
--     header x, frame x          the length of the drained bytes, and these behind it
--     sent_in_all x y            all that is sent on the direction
--     has_back x                 the whole frame with its bytes was read
--     part x y                   what is sent next, and so far in one piece
--     reads p x r                how many bytes of the frame p reads in a turn
--     sends p x y d              how many bytes p sends in a turn
--     with_piece, with_sent      what is noted then
--     turn_note, turn_channels    what a turn of p leaves of the notes x and of the channels: it reads before it sends
use Rattle.std.specs.Prelude.{◌==◌, ℕ, ◌+◌, ◌-◌, min, nat_lt, Bool, List, [], ◌++◌, length, take, drop, if◌then◌else◌}
use Rattle.std.specs.Option.{option_map_or}
use Rattle.std.specs.Int.{w32, to_le_bytes}
use Rattle.sys_abi.specs.declared.identity.RealPid.{RealPid}
use Rattle.sys_abi.specs.declared.transfer.TheConstants.{TRANSFER_LIMIT}
use Rattle.wire_net.specs.declared.cut_room.DirNotes.{DirNotes}
use Rattle.wire_net.specs.Reserves.{reserve}
pub use Rattle.wire_net.specs.Noted.{is_agent}
use Rattle.wire_channels.specs.Directions.{Direction, room, after_receive, after_send}
use Rattle.wire_channels.specs.Channels.{Channels, direction_at, at_direction}
use Rattle.wire_channels.specs.Answers.{received_on}
use Rattle.wire_net.specs.Whereabouts.{reverse}
use Rattle.refill_core.specs.declared.limits.TheConstants.{HEADER_LENGTH}

abbrev pub header : DirNotes → List ℕ
header x = to_le_bytes w32 x.count

abbrev pub frame : DirNotes → List ℕ
frame x = header x ++ x.drained.items

abbrev pub frame_length : DirNotes → ℕ
frame_length x = HEADER_LENGTH + x.count

abbrev pub sent_in_all : DirNotes → DirNotes → List ℕ
sent_in_all x y = frame y ++ x.drained.items

abbrev pub has_back : DirNotes → Bool
has_back x = x.read == frame_length x

-- the header, then the drained bytes of the other direction, and, once the frame with its own is read, these
abbrev pub part : DirNotes → DirNotes → List ℕ
part x y =
    if nat_lt x.sent HEADER_LENGTH then drop x.sent (header y) else
    if nat_lt x.sent (frame_length y) then drop (x.sent - HEADER_LENGTH) y.drained.items else
    if has_back x then drop (x.sent - frame_length y) x.returned.items else
    []

abbrev pub wanted : DirNotes → ℕ
wanted x = min (frame_length x - x.read) TRANSFER_LIMIT

abbrev pub reads : RealPid → DirNotes → Direction → ℕ
reads p x r = if is_agent p x.sender then min (wanted x) (length r.received) else 0

abbrev pub sends : RealPid → DirNotes → DirNotes → Direction → ℕ
sends p x y d = if is_agent p x.sender then min (length (part x y)) (room d) else 0

-- the bytes behind the header are kept
abbrev pub with_piece : List ℕ → DirNotes → DirNotes
with_piece piece x = record x {
  read = x.read + length piece;
  returned = reserve (x.returned.items ++ drop (HEADER_LENGTH - x.read) piece) x.returned.room;
}

abbrev pub with_sent : ℕ → DirNotes → DirNotes
with_sent k x = record x { sent = x.sent + k }

-- ---- in a network

abbrev pub read_count : RealPid → DirNotes → Channels → ℕ
read_count p x m = option_map_or (reads p x) (direction_at m (reverse x.dir)) 0

abbrev pub note_read : RealPid → DirNotes → Channels → DirNotes
note_read p x m = with_piece (take (read_count p x m) (received_on (direction_at m (reverse x.dir)))) x

abbrev pub channels_read : RealPid → DirNotes → Channels → Channels
channels_read p x m = at_direction m (reverse x.dir) (after_receive (read_count p x m))

abbrev pub send_count : RealPid → DirNotes → DirNotes → Channels → ℕ
send_count p x y m = option_map_or (sends p x y) (direction_at m x.dir) 0

abbrev pub sent_on : ℕ → List ℕ → Direction → Direction
sent_on k piece direction = if k == 0 then direction else after_send (take k piece) direction

abbrev pub note_sent : RealPid → DirNotes → DirNotes → Channels → DirNotes
note_sent p x y m = with_sent (send_count p x y m) x

abbrev pub channels_sent : RealPid → DirNotes → DirNotes → Channels → Channels
channels_sent p x y m = at_direction m x.dir (sent_on (send_count p x y m) (part x y))

abbrev pub turn_note : RealPid → DirNotes → DirNotes → Channels → DirNotes
turn_note p x y m = note_sent p (note_read p x m) y (channels_read p x m)

abbrev pub turn_channels : RealPid → DirNotes → DirNotes → Channels → Channels
turn_channels p x y m = channels_sent p (note_read p x m) y (channels_read p x m)

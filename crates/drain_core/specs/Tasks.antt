-- What an agent does in a drain with one direction of a live channel.
-- Source: the DMTCP paper (IPDPS 2009), "drain kernel buffers": each side sends a cookie and reads until it
-- has read the other's. That the count of bytes is known at the suspension, and what a cookie has, is this
-- project's own profile.
--     cookie id                  a magic word, and the name of the channel
--     unread x, unsent x         how many bytes the reading agent has still to read, cookie and all;  what is left of the cookie
--     reads p x direction        how many bytes p reads in a step
--     sends p x direction        how many bytes of the cookie p sends in a step
--     direction_after, note_after      a direction, and what is noted of it, after a step of p
--     moves p x direction        p moves bytes in a step
use Rattle.std.specs.Prelude.{◌==◌, ℕ, ◌+◌, ◌-◌, min, nat_lt, Bool, ◌||◌, List, [], ◌∷◌, ◌++◌, codes, length, take, drop, Option, Some, None, if◌then◌else◌}
use Rattle.std.specs.Int.{w32, to_le_bytes}
use Rattle.sys_abi.specs.declared.identity.ConnId.{ConnId}
use Rattle.sys_abi.specs.declared.identity.RealPid.{RealPid}
use Rattle.sys_abi.specs.declared.transfer.TheConstants.{TRANSFER_LIMIT}
use Rattle.wire_net.specs.declared.cut_room.DirNotes.{DirNotes}
use Rattle.wire_net.specs.Reserves.{reserve}
pub use Rattle.wire_net.specs.Noted.{is_agent}
use Rattle.wire_channels.specs.Directions.{Direction, room, after_receive, after_send}
use Rattle.drain_core.specs.declared.limits.TheConstants.{COOKIE_LENGTH}

abbrev pub cookie : ConnId → List ℕ
cookie id = codes "DMTCPCK1" ++ to_le_bytes w32 id.pid.0 ++ to_le_bytes w32 id.num

abbrev pub unread : DirNotes → ℕ
unread x = x.count + COOKIE_LENGTH - x.read

-- the whole cookie is sent
abbrev pub has_sent : DirNotes → Bool
has_sent x = x.sent == COOKIE_LENGTH

abbrev pub unsent : DirNotes → List ℕ
unsent x = drop x.sent (cookie x.dir.conn)

-- a step reads at most what a transfer holds
abbrev pub readable : DirNotes → Direction → ℕ
readable x direction = min (min (unread x) TRANSFER_LIMIT) (length direction.received)

abbrev pub sendable : DirNotes → Direction → ℕ
sendable x direction = min (length (unsent x)) (room direction)

abbrev pub reads : RealPid → DirNotes → Direction → ℕ
reads p x direction = if is_agent p x.reader then readable x direction else 0

abbrev pub sends : RealPid → DirNotes → Direction → ℕ
sends p x direction = if is_agent p x.sender then sendable x direction else 0

abbrev pub moves : RealPid → DirNotes → Direction → Bool
moves p x direction = nat_lt 0 (reads p x direction) || nat_lt 0 (sends p x direction)

-- the bytes before the cookie are kept
abbrev pub with_piece : List ℕ → DirNotes → DirNotes
with_piece piece x = record x {
  read = x.read + length piece;
  drained = reserve (x.drained.items ++ take (x.count - x.read) piece) x.drained.room;
}

abbrev pub noted_read : List ℕ → DirNotes → DirNotes
noted_read [] x = x
noted_read (byte ∷ bytes) x = with_piece (byte ∷ bytes) x

abbrev pub noted_sent : ℕ → DirNotes → DirNotes
noted_sent n x = if n == 0 then x else record x { sent = x.sent + n }

abbrev pub with_sent : ℕ → DirNotes → Direction → Direction
with_sent n x direction = if n == 0 then direction else after_send (take n (unsent x)) direction

-- it reads before it sends
abbrev pub after_reading : RealPid → DirNotes → Direction → Direction
after_reading p x direction = after_receive (reads p x direction) direction

abbrev pub direction_after : RealPid → DirNotes → Direction → Direction
direction_after p x direction = with_sent (sends p x (after_reading p x direction)) x (after_reading p x direction)

abbrev pub note_after_on : RealPid → Direction → DirNotes → DirNotes
note_after_on p direction x = noted_sent (sends p x (after_reading p x direction)) (noted_read (take (reads p x direction) direction.received) x)

abbrev pub note_after : RealPid → Option Direction → DirNotes → DirNotes
note_after p None x = x
note_after p (Some direction) x = note_after_on p direction x

-- Bytes through a channel: what a read takes from a direction, and what a write puts into it.
-- Source: `man 7 pipe`, `man 2 socketpair`.
--     is_receivable, is_sendable      whether a read or a write of so many bytes has an answer yet
--     read_stream k from count        from the direction to the end
--     write_stream k p t to count given      into the direction from it
use Rattle.std.specs.Prelude.{◌==◌, ◌||◌, ◌&&◌, ℕ, ◌-◌, min, nat_lt, Bool, true, List, ◌++◌, take, drop, length, Option, Some, None, if◌then◌else◌}
use Rattle.plain_tables.specs.OfViews.Numbers.{ThreadNumber, Byte}
use Rattle.plain_tables.specs.OfViews.Limits.{DIRECTION_LIMIT}
use Rattle.plain_tables.specs.OfSysAbi.declared.identity.VPid.{VPid}
use Rattle.plain_tables.specs.OfSysAbi.declared.identity.Dir.{Dir}
use Rattle.plain_tables.specs.OfSysAbi.declared.errors.TheConstants.{ENOTCONN, EPIPE}
use Rattle.plain_machine.specs.declared.kernel.PlainKernel.{PlainKernel}
use Rattle.plain_tables.specs.declared.channel.Direction.{Direction}
use Rattle.plain_tables.specs.OfPlainProcess.Attempts.{Try, found, ◌>>=◌}
use Rattle.plain_machine.specs.Attempts.{Served, replied}
use Rattle.plain_machine.specs.Channels.{direction_at, with_direction}
use Rattle.plain_machine.specs.Transfers.Answers.{gave, broken_pipe}

-- nothing more is sent, or nobody reads
abbrev pub is_broken : Direction → Bool
is_broken direction = direction.ended || direction.unread

-- bytes have arrived, or none will come, or none were asked for
abbrev pub is_receivable : ℕ → Option Direction → Bool
is_receivable count None = true
is_receivable count (Some direction) =
    (count == 0) || nat_lt 0 direction.arrived || (is_broken direction && (length direction.left == 0))

-- there is room, or nobody will read, or nothing is to be sent
abbrev pub is_sendable : ℕ → Option Direction → Bool
is_sendable count None = true
is_sendable count (Some direction) =
    (count == 0) || is_broken direction || nat_lt (length direction.left) DIRECTION_LIMIT

-- the first bytes that have arrived, at most so many
abbrev pub taken_bytes : ℕ → Direction → List Byte
taken_bytes count direction = take (min count direction.arrived) direction.left

abbrev pub without_front : ℕ → Direction → Direction
without_front n direction = record direction {
  left = drop n direction.left;
  arrived = direction.arrived - n;
}

abbrev pub with_sent : List Byte → Direction → Direction
with_sent bytes direction = record direction { left = direction.left ++ bytes }

-- as many of the first bytes as have room
abbrev pub fitting_bytes : List Byte → Direction → List Byte
fitting_bytes bytes direction = take (DIRECTION_LIMIT - length direction.left) bytes

unfoldable pub read_stream : PlainKernel → Dir → ℕ → Try Served
read_stream k from count = do
  direction ← found (direction_at k from) ENOTCONN
  gave (with_direction k from (without_front (min count direction.arrived) direction))
      (taken_bytes count direction)

abbrev pub sent : PlainKernel → Dir → Direction → List Byte → Try Served
sent k to direction bytes = replied (with_direction k to (with_sent bytes direction)) (length bytes)

abbrev pub write_direction : PlainKernel → VPid → ThreadNumber → Dir → ℕ → List Byte → Direction
    → Try Served
write_direction k p t to count given direction =
    if count == 0 then replied k 0 else
    if is_broken direction then broken_pipe k p t else
    sent k to direction (fitting_bytes given direction)

unfoldable pub write_stream : PlainKernel → VPid → ThreadNumber → Dir → ℕ → List Byte → Try Served
write_stream k p t to count given = do
  direction ← found (direction_at k to) EPIPE
  write_direction k p t to count given direction

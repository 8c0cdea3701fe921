-- futex(address, operation, value, timeout) (`man 2 futex`): WAIT waits unless the word differs, WAKE wakes
-- so many. Other operations are none, and no wait has a timeout.
use Rattle.std.specs.Prelude.{◌==◌, ◌&&◌, ◌||◌, ℕ, ◌%◌, Bool, List, if◌then◌else◌}
use Rattle.elf32.specs.OfViews.Numbers.{Address, ThreadNumber, Byte}
use Rattle.call_table.specs.OfSysAbi.declared.errors.TheConstants.{EAGAIN, EINVAL, ENOSYS}
use Rattle.plain_process.specs.declared.user_part.UserPart.{UserPart}
use Rattle.plain_process.specs.Memory.{little_endian}
use Rattle.plain_process.specs.Buffers.{is_wait}
use Rattle.plain_process.specs.Attempts.{Try, Fails, Gives, need, ◌>>◌}
use Rattle.plain_process.specs.Threads.{Woken, waiting, wake}
use Rattle.plain_process.specs.Rows.Locals.{Local, Stays, local_reply}

abbrev pub is_wake : ℕ → Bool
is_wake operation = (operation == 1) || (operation == 129)

unfoldable pub futex_wait : UserPart → ThreadNumber → List Byte → Address → ℕ → Address → Try Local
futex_wait user t given address value timeout = do
  need ((address % 4 == 0) && (timeout == 0)) EINVAL
  need (little_endian given == value) EAGAIN
  Gives (Stays (waiting user t address))

abbrev pub woken_reply : Woken → Try Local
woken_reply woken = local_reply woken.user woken.count

unfoldable pub futex_wake : UserPart → Address → ℕ → Try Local
futex_wake user address value = do
  need (address % 4 == 0) EINVAL
  woken_reply (wake value address user)

unfoldable pub futex_row : UserPart → ThreadNumber → List Byte → Address → ℕ → ℕ → Address → Try Local
futex_row user t given address operation value timeout =
    if is_wait operation then futex_wait user t given address value timeout else
    if is_wake operation then futex_wake user address value else Fails ENOSYS

-- brk(address), munmap(address, length), mmap(address, length, protection, flags, ..) (`man 2 brk`,
-- `man 2 mmap`). The heap begins at the break's start, and its pages can be read and written. A mapping is
-- anonymous and private, at the lowest place where it fits.
use Rattle.std.specs.Prelude.{◌==◌, ◌&&◌, ℕ, ◌+◌, ◌-◌, ◌*◌, ◌/◌, ◌%◌, nat_le, nat_lt, Bool, not, [], Option, None, if◌then◌else◌}
use Rattle.std.specs.FinMap as map
use Rattle.elf32.specs.OfViews.Numbers.{Address, Flags}
use Rattle.elf32.specs.OfViews.Limits.{PAGE_LIMIT, BREAK_LIMIT}
use Rattle.call_table.specs.OfSysAbi.declared.errors.TheConstants.{EINVAL, ENOMEM}
use Rattle.plain_process.specs.declared.user_part.UserPart.{UserPart}
use Rattle.plain_process.specs.Memory.{Memory}
use Rattle.plain_process.specs.Start.{with_pages}
use Rattle.plain_process.specs.Pages.{MAPPING_START, MAPPING_END, pages_of, without_pages, free_run}
use Rattle.plain_process.specs.Attempts.{Try, need, found, ◌>>=◌, ◌>>◌}
use Rattle.plain_process.specs.Rows.Locals.{Local, local_reply}

abbrev pub with_memory : UserPart → Memory → UserPart
with_memory user memory = record user { memory = memory }

-- the heap's pages up to a break: those below stay, those above are taken away, and those that are missing
-- are added
abbrev pub heap_to : Memory → ℕ → ℕ → Memory
heap_to memory old new =
    if nat_le old new then with_pages memory old (new - old) 6 [] else without_pages memory new (old - new)

abbrev pub is_break : UserPart → Address → Bool
is_break user address =
    nat_le user.break_start address && nat_le address BREAK_LIMIT
    && nat_le (map.len user.memory + pages_of address - pages_of user.break_end) PAGE_LIMIT

abbrev pub with_break : UserPart → Address → UserPart
with_break user address =
    record user {
      memory = heap_to user.memory (pages_of user.break_end) (pages_of address);
      break_end = address;
    }

unfoldable pub brk_row : UserPart → Address → Try Local
brk_row user address =
    if is_break user address then
    local_reply (with_break user address) address
    else local_reply user user.break_end

unfoldable pub munmap_row : UserPart → Address → ℕ → Try Local
munmap_row user address length = do
  need
      ((address % 4096 == 0) && not (length == 0)
      && nat_le MAPPING_START address && nat_le (address + length) MAPPING_END)
      EINVAL
  local_reply (with_memory user (without_pages user.memory (address / 4096) (pages_of length))) 0

-- protection bits 1, 2, 4 are to read, to write, to execute; rights are 4, 2, 1
abbrev pub rights_of : ℕ → ℕ
rights_of protection = 4 * (protection % 2) + 2 * (protection / 2 % 2) + protection / 4 % 2

-- MAP_PRIVATE and MAP_ANONYMOUS
abbrev pub MAP_FLAGS : ℕ
MAP_FLAGS = 0x22

abbrev pub room_for : Memory → ℕ → Option ℕ
room_for memory count = if nat_le (map.len memory + count) PAGE_LIMIT then free_run memory count else None

unfoldable pub mmap_row : UserPart → ℕ → ℕ → Flags → Try Local
mmap_row user length protection flags = do
  need ((flags == MAP_FLAGS) && not (length == 0) && nat_lt protection 8) EINVAL
  page ← found (room_for user.memory (pages_of length)) ENOMEM
  local_reply
      (with_memory user (with_pages user.memory page (pages_of length) (rights_of protection) []))
      (4096 * page)

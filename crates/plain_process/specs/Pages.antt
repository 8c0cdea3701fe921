-- Pages by their numbers, as calls add them and take them away.
-- Source: `man 2 brk`, `man 2 mmap`, `man 2 munmap`; the places of the heap and of mappings and the limit of
-- pages are this project's own.
--     is_free memory page count            none of the pages is there
--     without_pages memory page count      the memory without these pages
--     free_run memory count                the lowest run of so many pages for a mapping, if there is one
use Rattle.std.specs.Prelude.{◌≡◌, ℕ, zero, suc, ◌+◌, ◌-◌, ◌/◌, ◌<◌, ◌≤◌, ◌&&◌, not, nat_le, nat_lt, Bool, true, find, Option, None, is_some}
use Rattle.std.specs.List.{range_with_len}
use Rattle.std.specs.FinMap as map
use Rattle.elf32.specs.OfViews.Numbers.{Address}
use Rattle.plain_process.specs.Memory.{Memory}

-- so many bytes from a page's start on touch so many pages
abbrev pub pages_of : ℕ → ℕ
pages_of bytes = (bytes + 4095) / 4096

abbrev pub is_among : ℕ → ℕ → ℕ → Bool
is_among page count number = nat_le page number && nat_lt number (page + count)

abbrev pub IsFree : Memory → ℕ → ℕ → Type 0
IsFree memory page count = (number : ℕ) → page ≤ number → number < page + count → map.get memory number ≡ None

unfoldable pub without_pages : Memory → ℕ → ℕ → Memory
without_pages memory page count = map.retain_keys memory (λ number. not (is_among page count number))

unfoldable pub is_free : Memory → ℕ → ℕ → Bool
is_free memory page zero = true
is_free memory page (suc n) = is_free memory page n && not (is_some (map.get memory (page + n)))

-- mappings lie from 0x40000000 to below 0x70000000
abbrev pub MAPPING_START : Address
MAPPING_START = 0x40000000

abbrev pub MAPPING_END : Address
MAPPING_END = 0x70000000

abbrev pub first_free : Memory → ℕ → ℕ → ℕ → Option ℕ
first_free memory count start places = find (λ page. is_free memory page count) (range_with_len start places)

unfoldable pub free_run : Memory → ℕ → Option ℕ
free_run memory count =
    first_free memory count (MAPPING_START / 4096) (MAPPING_END / 4096 - MAPPING_START / 4096 + 1 - count)

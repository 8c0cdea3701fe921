-- Pages in a row, and where the next one stands.
--     IsFree memory page count               none of the pages is there
--     without_pages memory page count        the memory without these pages
--     IsFirstTaken memory page count taken   the first of the pages that is there, if one is
--     start_of above                         the first number above one, or of all where none is given
--     IsRoomFault fault                      why a page may not be added
use Rattle.std.specs.Prelude.{◌≡◌, ◌⊎◌, ℕ, ◌+◌, ◌<◌, ◌≤◌, Option, Some, None, is_some, true}
use Rattle.std.specs.FinMap as map
use Rattle.plain_process.specs.Memory.{Memory}
use Rattle.guest_pages.specs.declared.mem_fault.MemFault.{MemFault}
use Rattle.guest_pages.specs.declared.mem_fault.MemFault.TheVariants.{Full, Memory as NoMemory}
pub use Rattle.plain_process.specs.Pages.{is_among, IsFree}
unfoldable pub use Rattle.plain_process.specs.Pages.{without_pages}

pub record IsTaken (memory : Memory) (page count number : ℕ) : Type 0 where
  pub from : page ≤ number
  pub below : number < page + count
  pub held : is_some (map.get memory number) ≡ true

abbrev pub IsFirstTaken : Memory → ℕ → ℕ → Option ℕ → Type 0
IsFirstTaken memory page count None = IsFree memory page count
IsFirstTaken memory page count (Some number) = IsTaken memory page count number

abbrev pub start_of : Option ℕ → ℕ
start_of None = 0
start_of (Some number) = number + 1

abbrev pub IsRoomFault : MemFault → Type 0
IsRoomFault fault = (fault ≡ Full) ⊎ (fault ≡ NoMemory)

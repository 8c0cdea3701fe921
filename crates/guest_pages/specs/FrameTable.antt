-- The frames of a table of rows, each of 1,024 places: page number q stands in row q / 1024 at place
-- q % 1024.
--     cell_at rows number               what stands there
--     with_cell memory number cell      the memory with this frame at the number, or with none there
--     frames_of rows                    the memory that the rows are
--     IsTable rows count                what a table of so many frames keeps
--     opened rows start code            the memory that the rows are with the page of the code, whose first byte has this address
--     IsOpen rows count start code      what a table keeps while that page is taken out
--     changed_at memory number f        the memory with f of the frame at the number, where there is one
--     IsNextPage memory start number    the first number from a start on at which a frame stands, if there is one
use Rattle.std.specs.Prelude.{◌≡◌, ℕ, ◌+◌, ◌≤◌, ◌<◌, ◌^◌, true, is_some, zero, suc, ◌*◌, ◌/◌, ◌%◌, List, [], length, Option, Some, None, option_map, slice_index_or}
use Rattle.std.specs.FinMap as map
use Rattle.plain_process.specs.declared.memory.Frame.{Frame}
use Rattle.plain_process.specs.declared.memory.Right.TheVariants.{Execute}
use Rattle.plain_process.specs.Memory.{Memory, allows}
use Rattle.guest_pages.specs.Pages.{IsSpace}

abbrev pub Rows : Type 0
Rows = List (List (Option Frame))

abbrev pub cell_at : Rows → ℕ → Option Frame
cell_at rows number = slice_index_or (slice_index_or rows (number / 1024) []) (number % 1024) None

abbrev pub with_cell : Memory → ℕ → Option Frame → Memory
with_cell memory number None = map.remove memory number
with_cell memory number (Some frame) = map.insert memory number frame

unfoldable pub frames_below : Rows → ℕ → Memory
frames_below rows zero = map.empty
frames_below rows (suc n) = with_cell (frames_below rows n) n (cell_at rows n)

unfoldable pub frames_of : Rows → Memory
frames_of rows = frames_below rows (1024 * length rows)

-- what a table keeps: its count is that of the frames, and it has no row past the numbers of 32 bits
pub record IsTable (rows : Rows) (count : ℕ) : Type 0 where
  pub counted : count ≡ map.len (frames_of rows)
  pub short : length rows ≤ 2 ^ 22

abbrev pub opened : Rows → ℕ → Frame → Memory
opened rows start code = map.insert (frames_of rows) (start / 4096) code

pub record IsOpen (rows : Rows) (count start : ℕ) (code : Frame) : Type 0 where
  pub counted : count ≡ map.len (opened rows start code)
  pub short : length rows ≤ 2 ^ 22
  pub row : start / 4096 / 1024 < length rows
  pub place : start / 4096 % 1024 < length (slice_index_or rows (start / 4096 / 1024) [])
  pub absent : cell_at rows (start / 4096) ≡ None
  pub aligned : start % 4096 ≡ 0
  pub executable : allows Execute code.rights ≡ true
  pub space : IsSpace (opened rows start code)

abbrev pub changed_at : Memory → ℕ → (Frame → Frame) → Memory
changed_at memory number f = with_cell memory number (option_map f (map.get memory number))

pub record IsSameRows (old new : Rows) : Type 0 where
  pub same : (number : ℕ) → cell_at new number ≡ cell_at old number

pub record IsFirstPage (memory : Memory) (start number : ℕ) : Type 0 where
  pub from : start ≤ number
  pub held : is_some (map.get memory number) ≡ true
  pub first : (q : ℕ) → start ≤ q → q < number → map.get memory q ≡ None

abbrev pub IsNextPage : Memory → ℕ → Option ℕ → Type 0
IsNextPage memory start None = (q : ℕ) → start ≤ q → map.get memory q ≡ None
IsNextPage memory start (Some number) = IsFirstPage memory start number

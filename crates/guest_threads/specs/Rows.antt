-- The threads of a process as rows, each with its number, in rising order.
--     threads_of rows      the threads as a finite map      IsRising rows      the numbers rise
--     place t rows         how many rows have lower numbers before t's place
--     IsIndex t rows i     the row of t stands at i, or there is none
use Rattle.std.specs.Prelude.{◌≡◌, ℕ, suc, nat_lt, T, List, [], ◌∷◌, map as each, slice_get, Option, Some, None, if◌then◌else◌}
use Rattle.std.specs.Option.{option_map}
use Rattle.std.specs.Ordering.{nat_cmp}
use Rattle.std.specs.FinMap as map
use Rattle.plain_process.specs.declared.user_part.ThreadPart.{ThreadPart}
use Rattle.guest_threads.specs.declared.rows.Row.{Row}

abbrev pub part_of : Row → ThreadPart
part_of row = record { regs = row.regs; mask = row.mask; clear_tid = row.clear_tid; contexts = row.contexts }

abbrev pub entry_of : Row → ℕ × ThreadPart
entry_of row = (row.number, part_of row)

abbrev pub entries_of : List Row → List (ℕ × ThreadPart)
entries_of rows = each entry_of rows

unfoldable pub threads_of : List Row → map.FinMap nat_cmp ThreadPart
threads_of rows = map.from_entries (entries_of rows)

unfoldable pub IsRising : List Row → Type 0
IsRising rows = T (map.is_sorted nat_cmp (entries_of rows))

unfoldable pub place : ℕ → List Row → ℕ
place t [] = 0
place t (row ∷ rest) = if nat_lt row.number t then suc (place t rest) else 0

abbrev pub IsIndex : ℕ → List Row → Option ℕ → Type 0
IsIndex t rows None = map.get (threads_of rows) t ≡ None
IsIndex t rows (Some i) = (i ≡ place t rows) × (option_map (λ row. row.number) (slice_get rows i) ≡ Some t)

-- Pages: page p has the 4,096 addresses from 4096 * p on. An address has 32 bits, so the pages are those
-- below 2 ^ 20.
--     range_of segment             the addresses of a segment
--     touches segment p            some address of the segment is in page p
--     page_count segments          how many pages some of the segments touch, each counted once
--     page_rights segments p       the rights of page p: those of each segment that touches it
use Rattle.std.specs.Prelude.{ℕ, ◌+◌, ◌*◌, ◌^◌, Bool, if◌then◌else◌, List, bit_or}
use Rattle.std.specs.List.{fold, list_any, count_by, range_with_len}
use Rattle.elf32.specs.declared.program.Segment.{Segment}
use Rattle.elf32.specs.declared.range.AddressRange.{AddressRange}
use Rattle.elf32.specs.Ranges.{meets}

abbrev pub range_of : Segment → AddressRange
range_of segment = record { start = segment.vaddr; end = segment.vaddr + segment.memsz }

abbrev pub page_range : ℕ → AddressRange
page_range p = record { start = 4096 * p; end = 4096 * p + 4096 }

abbrev pub touches : Segment → ℕ → Bool
touches segment p = meets (range_of segment) (page_range p)

abbrev pub is_touched : List Segment → ℕ → Bool
is_touched segments p = list_any (λ s. touches s p) segments

-- 1 where none of the segments touches the page, else 0
abbrev pub untouched : List Segment → ℕ → ℕ
untouched segments p = if is_touched segments p then 0 else 1

-- of the pages below n, how many some of the segments touch
unfoldable pub pages_below : ℕ → List Segment → ℕ
pages_below n segments = count_by (is_touched segments) (range_with_len 0 n)

abbrev pub page_count : List Segment → ℕ
page_count segments = pages_below (2 ^ 20) segments

abbrev pub rights_at : Segment → ℕ → ℕ
rights_at segment p = if touches segment p then segment.rights else 0

abbrev pub page_rights : List Segment → ℕ → ℕ
page_rights segments p = fold (λ rights s. bit_or rights (rights_at s p)) 0 segments

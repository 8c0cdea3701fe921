-- What a folder holds: bytes under names. A file that is not there has no bytes, and so the length 0.
--     FolderFiles                   a map from the names of files to their bytes
--     contents files name           the bytes of the file
--     overwritten at bytes old      the bytes of a file after a write at an offset within it or at its end
--     with_write, with_cut          the files after that write, and after a cut to a length
use Rattle.std.specs.Prelude.{ℕ, ◌+◌, List, [], ◌++◌, length, take, drop, unwrap_or}
use Rattle.std.specs.Option.{option_map_or}
use Rattle.std.specs.declared.cmp.Ordering.{Ordering}
use Rattle.std.specs.Ordering.{nat_cmp, ordering_then}
use Rattle.std.specs.FinMap as map
use Rattle.views.specs.Numbers.{Byte}
use Rattle.disk_folder.specs.declared.file_name.FileName.{FileName}

-- by slot, and then by index
abbrev pub file_name_cmp : FileName → FileName → Ordering
file_name_cmp a b = ordering_then (nat_cmp a.slot b.slot) (nat_cmp a.index b.index)

abbrev pub FolderFiles : Type 0
FolderFiles = map.FinMap file_name_cmp (List ℕ)

abbrev pub contents : FolderFiles → FileName → List Byte
contents files name = unwrap_or (map.get files name) []

abbrev pub overwritten : ℕ → List Byte → List Byte → List Byte
overwritten at bytes old = take at old ++ bytes ++ drop (at + length bytes) old

-- a write makes the file if it is not there
abbrev pub with_write : FolderFiles → FileName → ℕ → List Byte → FolderFiles
with_write files name at bytes = map.insert files name (overwritten at bytes (contents files name))

-- a cut makes no file
abbrev pub with_cut : FolderFiles → FileName → ℕ → FolderFiles
with_cut files name len = option_map_or (λ bytes. map.insert files name (take len bytes))
    (map.get files name) files

-- The files of a table and their names, taken one after the other.
-- Source: `man 2 open`, `man 2 unlink`: a file that has no name stays while it is open.
--     with_file files seen file      and the bytes of this file, if it is there
--     AddsName t file old new        and the name of this file, if it has one that is not empty
use Rattle.std.specs.Prelude.{◌≡◌, ◌⊎◌, ℕ, true, List, [], Some, is_some}
use Rattle.std.specs.Option.{option_map_or}
use Rattle.std.specs.FinMap as map
use Rattle.vfs_files.specs.FileTable.{FileTable, Contents}
use Rattle.vfs_files.specs.Names.{Names}
use Rattle.seen_kernel.specs.Parts.{IsPart}

abbrev pub with_file : Contents → Contents → ℕ → Contents
with_file files seen file = option_map_or (λ bytes. map.insert seen file bytes) (map.get files file) seen

pub record AddsName (t : FileTable) (file : ℕ) (old new : Names) : Type 0 where
  pub part : IsPart t.names old → IsPart t.names new
  pub kept : (name : List ℕ) → is_some (map.get old name) ≡ true → is_some (map.get new name) ≡ true
  pub own : (name : List ℕ) → map.get t.names name ≡ Some file
      → (name ≡ []) ⊎ (is_some (map.get new name) ≡ true)

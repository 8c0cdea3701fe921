-- What is always true of the parts of a table of files, and the code by which the table is a model's value.
use Rattle.std.specs.Prelude.{◌≡◌, ℕ, ◌≤◌, true, List, is_some, Some, refl}
use Rattle.std.specs.Coded.{Coded, code_by, coded×, coded_ℕ, coded_list}
use Rattle.std.specs.FinMap as map
use Rattle.vfs_files.specs.declared.limits.TheConstants.{FILE_LIMIT, TOTAL_LIMIT}
use Rattle.vfs_files.specs.Names.{Names, IsNamedOnce}
use Rattle.vfs_files.specs.FileTable.{FileTable, Contents, bytes_of, AllBelow}

-- the sum that is kept beside the files is theirs, there are no more than there may be, a name's file is
-- there, and no number is used up
pub record IsKept (all : Names) (files : Contents) (next_file total : ℕ) : Type 0 where
  pub sum : total ≡ bytes_of files
  pub limit : total ≤ TOTAL_LIMIT
  pub count : map.len files ≤ FILE_LIMIT
  pub named : (name : List ℕ) (file : ℕ) → map.get all name ≡ Some file → is_some (map.get files file) ≡ true
  pub below : AllBelow files next_file

-- what callers learn of it: a name's file is there, no file has two names, no number is used up, and nothing
-- is past the limits
pub record IsWhole (t : FileTable) : Type 0 where
  pub named : (name : List ℕ) (file : ℕ) → map.get t.names name ≡ Some file → is_some (map.get t.files file) ≡ true
  pub once : IsNamedOnce t.names
  pub below : AllBelow t.files t.next_file
  pub count : map.len t.files ≤ FILE_LIMIT
  pub size : bytes_of t.files ≤ TOTAL_LIMIT

abbrev pub coded_table : Coded FileTable
coded_table =
    code_by (Names × (Contents × ℕ)) (coded× (map.code (coded_list coded_ℕ) coded_ℕ) (coded× (map.code coded_ℕ (coded_list coded_ℕ)) coded_ℕ))
    (λ t. (t.names, (t.files, t.next_file))) (λ p. record { names = p.0; files = p.1.0; next_file = p.1.1 }) (λ _. refl)

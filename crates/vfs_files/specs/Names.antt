-- The names of files. A file has at most one.
-- Source: `man 2 open`, `man 2 unlink`; that a file has one name at most, and no links, is this project's own
-- rule.
--     Names                       the number of the file of each name
--     IsNameOf names file name    the name of the file, or the empty one where it has none
--     without_file names file     the names of the other files
--     IsNamedOnce names           no file has two names
--     AreInverse files names      each name's file has that name, and each file's name has that file
use Rattle.std.specs.Prelude.{◌≡◌, ◌⊎◌, ◌==◌, ℕ, not, List, [], Some}
use Rattle.std.specs.Ordering.{nat_cmp}
use Rattle.std.specs.declared.cmp.Ordering.{Ordering}
use Rattle.std.specs.FinMap as map
use Rattle.views.specs.Maps.{retain}
use Rattle.sys_abi.specs.Names.{name_cmp}

abbrev pub Names : Type 0
Names = map.FinMap name_cmp ℕ

pub record IsNameOf (names : Names) (file : ℕ) (name : List ℕ) : Type 0 where
  pub only : (other : List ℕ) → map.get names other ≡ Some file → other ≡ name
  pub own : (map.get names name ≡ Some file) ⊎ (name ≡ [])

abbrev pub IsNamedOnce : Names → Type 0
IsNamedOnce names = (name other : List ℕ) (file : ℕ) → map.get names name ≡ Some file → map.get names other ≡ Some file → name ≡ other

abbrev pub without_file : Names → ℕ → Names
without_file names file = retain (λ name number. not (number == file)) names

-- each value of the one map leads back to its key by the other
abbrev pub LeadsBack : {K V : Type 0} {R : K → K → Ordering} {S : V → V → Ordering} → map.FinMap R V → map.FinMap S K → Type 0
LeadsBack {K} {V} m n = (key : K) (value : V) → map.get m key ≡ Some value → map.get n value ≡ Some key

pub record AreInverse (files : Names) (names : map.FinMap nat_cmp (List ℕ)) : Type 0 where
  pub by_name : LeadsBack files names
  pub by_file : LeadsBack names files

-- What holds of the files of every kernel part and of their names.
-- Source: the limits of docs/MACHINE.md; `man 2 openat`, `man 2 unlinkat`.
--     AreFiles, AreOpenFiles      a topic each, over the tables that it speaks of
use Rattle.std.specs.Prelude.{◌≡◌, ℕ, ◌^◌, ◌<◌, ◌≤◌, true, List, length, sum_by, Some, is_some, All}
use Rattle.std.specs.FinMap as map
use Rattle.plain_process.specs.OfViews.Numbers.{Byte}
use Rattle.plain_process.specs.OfViews.Limits.{FILE_LIMIT, ALL_FILES_LIMIT, NAME_LIMIT}
use Rattle.plain_process.specs.Valid.{IsByte, Each}
use Rattle.plain_tables.specs.declared.description.Object.{Object}
use Rattle.plain_tables.specs.declared.description.Object.TheVariants.{File}
use Rattle.plain_tables.specs.Tables.{Names, Files, Descriptions}
use Rattle.plain_tables.specs.Objects.{is_kept}

-- 1 to 255 bytes, none of them zero
pub record IsName (name : List Byte) : Type 0 where
  pub some : 1 ≤ length name
  pub few : length name ≤ NAME_LIMIT
  pub bytes : All (λ byte. (1 ≤ byte) × (byte < 2 ^ 8)) name

-- at most 1,024 files of 67,108,864 bytes together, with one name each at most
pub record AreFiles (next_file : ℕ) (names : Names) (files : Files) : Type 0 where
  pub count : map.len files ≤ FILE_LIMIT
  pub total : sum_by length (map.values files) ≤ ALL_FILES_LIMIT
  pub numbers : Each files (λ number bytes. (1 ≤ number) × (number < next_file))
  pub bytes : Each files (λ number bytes. All IsByte bytes)
  pub named : Each names (λ name number. IsName name × (is_some (map.get files number) ≡ true))
  pub one_name : (a b : List Byte) (number : ℕ) → map.get names a ≡ Some number
      → map.get names b ≡ Some number → a ≡ b

abbrev pub IsOpenFile : Files → Object → Type 0
IsOpenFile files (File number offset) = (is_some (map.get files number) ≡ true) × (offset < 2 ^ 32)
IsOpenFile files _ = Unit {0}

-- an open file is there, and one that is there has a name or is open
pub record AreOpenFiles (names : Names) (files : Files) (descriptions : Descriptions) : Type 0 where
  pub there : Each descriptions (λ d description. IsOpenFile files description.object)
  pub kept : Each files (λ number bytes. is_kept names descriptions number ≡ true)

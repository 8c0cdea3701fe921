-- All files: numbers under names, bytes under numbers, and the number that the next new file gets.
-- Source: `man 2 open` (O_CREAT, O_EXCL, ENOENT, EEXIST, ENOSPC), `man 2 ftruncate`, `man 2 unlink`; the
-- limits are this project's own.
--     contents files file                 the bytes of a file, none where it is not there
--     with_write, truncated               the files after a write, and after one was made empty
--     is_too_big files file at piece      no room for the write; an empty piece always has room
--     open_refusal t name flags           why no file is opened, tried in this order, or nothing
--     number_of, after_open               the number of the file that is opened, and the table then
--     after_forget, after_restore         the table once a file is gone, and once one was put back under its number
--     AllBelow files number               the number is above each number that is there
use Rattle.std.specs.Prelude.{◌≡◌, ◌==◌, ℕ, ◌+◌, ◌<◌, Bool, true, false, ◌||◌, nat_lt, nat_le, List, [], ◌∷◌, length, sum_by, is_some, Option, Some, None, unwrap_or, if◌then◌else◌}
use Rattle.std.specs.Option.{option_map_or}
use Rattle.std.specs.Ordering.{nat_cmp}
use Rattle.std.specs.FinMap as map
use Rattle.sys_abi.specs.declared.flags.TheConstants.{O_CREAT, O_EXCL}
use Rattle.vfs_files.specs.declared.limits.TheConstants.{FILE_LIMIT, TOTAL_LIMIT, LAST_END, LAST_NUMBER}
use Rattle.vfs_files.specs.declared.file_fault.FileFault.{FileFault}
use Rattle.vfs_files.specs.declared.file_fault.FileFault.TheVariants.{NoEntry, Exists, Space}
use Rattle.vfs_files.specs.Bytes.{written}
use Rattle.vfs_files.specs.Names.{Names, without_file}
use Rattle.sys_abi.specs.Flags.{has_flag}

abbrev pub Contents : Type 0
Contents = map.FinMap nat_cmp (List ℕ)

pub record FileTable : Type 0 where
  pub names : Names
  pub files : Contents
  pub next_file : ℕ

-- how many bytes all files have
unfoldable pub bytes_of : Contents → ℕ
bytes_of files = sum_by length (map.values files)

abbrev pub contents : Contents → ℕ → List ℕ
contents files file = unwrap_or (map.get files file) []

abbrev pub with_write : Contents → ℕ → ℕ → List ℕ → Contents
with_write files file at piece = map.insert files file (written at piece (contents files file))

abbrev pub truncated : Contents → ℕ → Contents
truncated files file = option_map_or (λ bytes. map.insert files file []) (map.get files file) files

abbrev pub is_too_big : Contents → ℕ → ℕ → List ℕ → Bool
is_too_big files file at [] = false
is_too_big files file at (byte ∷ piece) = nat_lt TOTAL_LIMIT (bytes_of (with_write files file at (byte ∷ piece))) || nat_lt LAST_END (at + length (byte ∷ piece))

-- as many files stand as may, or no number is left
abbrev pub is_full : FileTable → Bool
is_full t = nat_le FILE_LIMIT (map.len t.files) || (t.next_file == LAST_NUMBER)

-- by the file of the name, and whether O_CREAT and O_EXCL are there
abbrev pub refusal_by : FileTable → Option ℕ → Bool → Bool → Option FileFault
refusal_by t None false exclusive = Some NoEntry
refusal_by t None true exclusive = if is_full t then Some Space else None
refusal_by t (Some file) true true = Some Exists
refusal_by t (Some file) true false = None
refusal_by t (Some file) false exclusive = None

abbrev pub refusal_at : FileTable → ℕ → Option ℕ → Option FileFault
refusal_at t flags found = refusal_by t found (has_flag flags O_CREAT) (has_flag flags O_EXCL)

abbrev pub open_refusal : FileTable → List ℕ → ℕ → Option FileFault
open_refusal t name flags = refusal_at t flags (map.get t.names name)

abbrev pub number_of : FileTable → List ℕ → ℕ
number_of t name = unwrap_or (map.get t.names name) t.next_file

-- a new file has no bytes
abbrev pub with_file : FileTable → List ℕ → FileTable
with_file t name = record { names = map.insert t.names name t.next_file; files = map.insert t.files t.next_file []; next_file = t.next_file + 1 }

abbrev pub opened_by : FileTable → List ℕ → Option ℕ → FileTable
opened_by t name None = with_file t name
opened_by t name (Some file) = t

abbrev pub after_open : FileTable → List ℕ → FileTable
after_open t name = opened_by t name (map.get t.names name)

abbrev pub after_forget : FileTable → ℕ → FileTable
after_forget t file = record { names = without_file t.names file; files = map.remove t.files file; next_file = t.next_file }

-- the empty name stands for none
abbrev pub with_name : Names → List ℕ → ℕ → Names
with_name names [] file = names
with_name names (byte ∷ name) file = map.insert names (byte ∷ name) file

abbrev pub after_restore : FileTable → ℕ → List ℕ → List ℕ → FileTable
after_restore t file name bytes = record { names = with_name t.names name file; files = map.insert t.files file bytes; next_file = t.next_file }

abbrev pub AllBelow : Contents → ℕ → Type 0
AllBelow files number = (file : ℕ) → is_some (map.get files file) ≡ true → file < number

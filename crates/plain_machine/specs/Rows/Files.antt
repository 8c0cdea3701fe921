-- openat(directory, path, flags, mode), unlinkat(directory, path, flags), lseek(fd, offset, whence) (`man 2
-- openat`, `man 2 unlinkat`, `man 2 lseek`). `given` is the path, which is one flat name; directory is
-- AT_FDCWD.
use Rattle.std.specs.Prelude.{◌==◌, ◌+◌, ◌-◌, ◌%◌, ◌^◌, ℕ, ◌&&◌, bit_and, nat_lt, List, [], length, take, position, Option, Some, None, if◌then◌else◌}
use Rattle.std.specs.Option.{option_map_or}
use Rattle.std.specs.FinMap as map
use Rattle.plain_tables.specs.OfViews.Numbers.{Flags, Byte}
use Rattle.plain_tables.specs.OfViews.Limits.{FILE_LIMIT}
use Rattle.plain_tables.specs.OfSysAbi.declared.identity.VPid.{VPid}
use Rattle.plain_tables.specs.OfSysAbi.declared.errors.TheConstants.{ENOENT, EBADF, EEXIST, EINVAL, ENFILE, ENOSPC, ESPIPE, ENAMETOOLONG}
use Rattle.plain_tables.specs.OfSysAbi.declared.flags.TheConstants.{O_CREAT, O_EXCL, O_TRUNC, O_CLOEXEC, AT_FDCWD}
use Rattle.plain_tables.specs.OfSysAbi.Flags.{has_flag}
use Rattle.plain_machine.specs.declared.kernel.PlainKernel.{PlainKernel}
use Rattle.plain_tables.specs.declared.description.Object.{Object}
use Rattle.plain_tables.specs.declared.description.Object.TheVariants.{File}
use Rattle.plain_tables.specs.Closing.{without_unkept}
use Rattle.plain_tables.specs.OfPlainProcess.Attempts.{Try, Fails, Gives, need, refuse_if, found, ◌>>=◌, ◌>>◌}
use Rattle.plain_tables.specs.OfPlainProcess.Buffers.{PATH_LIMIT}
use Rattle.plain_machine.specs.Attempts.{Served, replied}
use Rattle.plain_machine.specs.Kernel.{Held, held, free_from, made_of, has_numbers, numbered, placed, with_object}
use Rattle.plain_machine.specs.Start.{with_file}

-- the bytes before the first zero
unfoldable pub path_of : List Byte → Try (List Byte)
path_of given = do
  end ← found (position (λ byte. byte == 0) given) ENAMETOOLONG
  need (nat_lt end PATH_LIMIT) ENAMETOOLONG
  Gives (take end given)

-- a name is gone, and its file too where no description has that open
abbrev pub without_name : PlainKernel → List Byte → ℕ → PlainKernel
without_name k name number = record k {
  names = map.remove k.names name;
  files = without_unkept (map.remove k.names name) k.descriptions k.files number;
}

unfoldable pub unlinkat_row : PlainKernel → VPid → ℕ → Flags → List Byte → Try Served
unlinkat_row k p directory flags given = do
  need (directory == AT_FDCWD) EBADF
  need (flags == 0) EINVAL
  name ← path_of given
  number ← found (map.get k.names name) ENOENT
  replied (without_name k name number) 0

-- files' numbers are below this one
abbrev pub LAST_FILE : ℕ
LAST_FILE = 2 ^ 32 - 1

-- whether the file that has the name may be opened, or one made
unfoldable pub may_open : PlainKernel → Flags → Option ℕ → Try (Unit {0})
may_open k flags None = do
  need (has_flag flags O_CREAT) ENOENT
  need (nat_lt (map.len k.files) FILE_LIMIT && nat_lt k.next_file LAST_FILE) ENOSPC
may_open k flags (Some number) = refuse_if (has_flag flags O_CREAT && has_flag flags O_EXCL) EEXIST

abbrev pub with_file_bytes : PlainKernel → ℕ → List Byte → PlainKernel
with_file_bytes k number bytes = record k { files = map.insert k.files number bytes }

-- the file of the name, made where there is none, and empty with O_TRUNC
abbrev pub opened_number : PlainKernel → Option ℕ → ℕ
opened_number k None = k.next_file
opened_number k (Some number) = number

abbrev pub with_opened : PlainKernel → List Byte → Flags → Option ℕ → PlainKernel
with_opened k name flags None = with_file k (record { name = name; bytes = [] })
with_opened k name flags (Some number) = if has_flag flags O_TRUNC then with_file_bytes k number [] else k

-- the access mode, O_APPEND and O_NONBLOCK
abbrev pub status_flags : Flags → Flags
status_flags flags = bit_and flags 0xC03

-- a new description of a file at its start
abbrev pub with_open_file : PlainKernel → VPid → ℕ → Flags → ℕ → PlainKernel
with_open_file k p fd flags number =
    placed (numbered k p 1) p fd (record { pid = p; num = made_of k p }) (has_flag flags O_CLOEXEC)
    (File number 0) (status_flags flags)

unfoldable pub open_at : PlainKernel → VPid → List Byte → Flags → ℕ → Option ℕ → Try Served
open_at k p name flags fd file = do
  may_open k flags file
  replied (with_open_file (with_opened k name flags file) p fd flags (opened_number k file)) fd

unfoldable pub openat_row : PlainKernel → VPid → ℕ → Flags → List Byte → Try Served
openat_row k p directory flags given = do
  need (directory == AT_FDCWD) EBADF
  name ← path_of given
  refuse_if (length name == 0) ENOENT
  refuse_if (flags % 4 == 3) EINVAL
  need (has_numbers k p) ENFILE
  fd ← free_from k p 0
  open_at k p name flags fd (map.get k.names name)

-- where an offset counts from: the start, the place of the next read or write, or the end
abbrev pub seek_start : ℕ → ℕ → ℕ → Option ℕ
seek_start whence offset size =
    if whence == 0 then Some 0 else
    if whence == 1 then Some offset else
    if whence == 2 then Some size else None

-- offsets are below this one
abbrev pub OFFSET_LIMIT : ℕ
OFFSET_LIMIT = 2 ^ 31

abbrev pub in_reach : ℕ → Option ℕ
in_reach place = if nat_lt place OFFSET_LIMIT then Some place else None

-- a place moved by a signed number
unfoldable pub place_moved : ℕ → ℕ → Option ℕ
place_moved offset start =
    if nat_lt offset (2 ^ 31) then in_reach (start + offset) else
    if nat_lt (start + offset) (2 ^ 32) then None else in_reach (start + offset - 2 ^ 32)

abbrev pub file_size : PlainKernel → ℕ → ℕ
file_size k number = option_map_or length (map.get k.files number) 0

unfoldable pub seek : PlainKernel → Held → ℕ → ℕ → Object → Try Served
seek k h offset whence (File number at) = do
  start ← found (seek_start whence at (file_size k number)) EINVAL
  place ← found (place_moved offset start) EINVAL
  replied (with_object k h (File number place)) place
seek k h offset whence _ = Fails ESPIPE

unfoldable pub lseek_row : PlainKernel → VPid → ℕ → ℕ → ℕ → Try Served
lseek_row k p fd offset whence = do
  h ← held k p fd
  seek k h offset whence h.description.object

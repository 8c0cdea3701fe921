-- Bytes of files: a read begins at the description's offset, a write there or at the file's end, and the
-- offset moves behind them.
-- Source: `man 2 read`, `man 2 write`, `man 2 open` (O_APPEND).
--     read_file k h number offset count
--     write_file k h number offset given
use Rattle.std.specs.Prelude.{◌==◌, ℕ, ◌+◌, ◌-◌, ◌^◌, min, nat_lt, nat_le, List, ◌++◌, take, drop, length, replicate, sum_by, if◌then◌else◌}
use Rattle.std.specs.FinMap as map
use Rattle.plain_tables.specs.OfViews.Numbers.{Flags, Byte}
use Rattle.plain_tables.specs.OfViews.Limits.{ALL_FILES_LIMIT}
use Rattle.plain_tables.specs.OfSysAbi.declared.errors.TheConstants.{EBADF, EFBIG, ENOSPC}
use Rattle.plain_tables.specs.OfSysAbi.declared.flags.TheConstants.{O_APPEND}
use Rattle.plain_tables.specs.OfSysAbi.Flags.{has_flag}
use Rattle.plain_machine.specs.declared.kernel.PlainKernel.{PlainKernel}
use Rattle.plain_tables.specs.declared.description.Object.TheVariants.{File}
use Rattle.plain_tables.specs.Tables.{Files}
use Rattle.plain_tables.specs.OfPlainProcess.Attempts.{Try, need, found, ◌>>=◌, ◌>>◌}
use Rattle.plain_machine.specs.Attempts.{Served, replied}
use Rattle.plain_machine.specs.Kernel.{Held, with_object}
use Rattle.plain_machine.specs.Rows.Files.{OFFSET_LIMIT, with_file_bytes}
use Rattle.plain_machine.specs.Transfers.Answers.{gave}

-- the greatest offset, up to which no file has bytes
abbrev pub LAST_OFFSET : ℕ
LAST_OFFSET = 2 ^ 31 - 1

-- how many bytes a read from an offset takes at most
abbrev pub read_room : ℕ → ℕ → ℕ
read_room offset count = min count (LAST_OFFSET - offset)

-- the bytes from a place on, at most so many
abbrev pub bytes_from : List Byte → ℕ → ℕ → List Byte
bytes_from bytes offset count = take count (drop offset bytes)

-- zeros after the bytes, up to a place
abbrev pub filled : ℕ → List Byte → List Byte
filled place bytes = bytes ++ replicate (place - length bytes) 0

-- a piece over what is there, and past the end
abbrev pub overwritten : ℕ → List Byte → List Byte → List Byte
overwritten place piece bytes = take place bytes ++ piece ++ drop (place + length piece) bytes

abbrev pub with_piece : List Byte → ℕ → List Byte → List Byte
with_piece bytes place piece = overwritten place piece (filled place bytes)

-- where a write begins
abbrev pub write_place : Flags → ℕ → List Byte → ℕ
write_place flags offset bytes = if has_flag flags O_APPEND then length bytes else offset

abbrev pub moved_behind : PlainKernel → Held → ℕ → ℕ → PlainKernel
moved_behind k h number offset = with_object k h (File number offset)

unfoldable pub read_file : PlainKernel → Held → ℕ → ℕ → ℕ → Try Served
read_file k h number offset count = do
  bytes ← found (map.get k.files number) EBADF
  let piece = bytes_from bytes offset (read_room offset count)
  gave (moved_behind k h number (offset + length piece)) piece

abbrev pub total_bytes : Files → ℕ
total_bytes files = sum_by length (map.values files)

-- a piece that isn't empty
unfoldable pub write_piece : PlainKernel → Held → ℕ → ℕ → List Byte → List Byte → Try Served
write_piece k h number place bytes piece = do
  let end = place + length piece
  need (nat_lt end OFFSET_LIMIT) EFBIG
  need (nat_le (total_bytes k.files + (end - length bytes)) ALL_FILES_LIMIT) ENOSPC
  replied (moved_behind (with_file_bytes k number (with_piece bytes place piece)) h number end) (length piece)

unfoldable pub write_file : PlainKernel → Held → ℕ → ℕ → List Byte → Try Served
write_file k h number offset given = do
  bytes ← found (map.get k.files number) EBADF
  if length given == 0 then replied k 0 else (
      write_piece k h number (write_place h.description.flags offset bytes) bytes given)

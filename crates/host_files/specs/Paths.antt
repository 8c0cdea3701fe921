-- The tests of the calls that name a file by a path, up to the path.
-- Source: `man 2 openat`, `man 2 unlinkat`.
--     unlink_path, open_path      the path, where the other arguments are as they should be
--     path_told given end         the bytes before the end that code tells, or its error
use Rattle.std.specs.Prelude.{◌==◌, ◌%◌, ℕ, List, length, take, Option, Some, None, Result, Ok, Err}
use Rattle.views.specs.Numbers.{Flags, Byte}
use Rattle.sys_abi.specs.declared.reply.Errno.{Errno}
use Rattle.sys_abi.specs.declared.errors.TheConstants.{EBADF, EINVAL, ENOENT, ENAMETOOLONG}
use Rattle.sys_abi.specs.declared.flags.TheConstants.{AT_FDCWD}
use Rattle.plain_process.specs.Attempts.{Try, Fails, Gives, need, refuse_if, ◌>>=◌, ◌>>◌}
use Rattle.plain_machine.specs.Rows.Files.{path_of}

unfoldable pub unlink_path : ℕ → Flags → List Byte → Try (List Byte)
unlink_path directory flags given = do
  need (directory == AT_FDCWD) EBADF
  need (flags == 0) EINVAL
  path_of given

unfoldable pub open_path : ℕ → Flags → List Byte → Try (List Byte)
open_path directory flags given = do
  need (directory == AT_FDCWD) EBADF
  name ← path_of given
  refuse_if (length name == 0) ENOENT
  refuse_if (flags % 4 == 3) EINVAL
  Gives name

abbrev pub path_told : List Byte → Result ℕ Errno → Try (List Byte)
path_told given (Ok end) = Gives (take end given)
path_told given (Err e) = Fails e.0

abbrev pub path_found : List Byte → Option ℕ → Try (List Byte)
path_found given None = Fails ENAMETOOLONG
path_found given (Some end) = Gives (take end given)

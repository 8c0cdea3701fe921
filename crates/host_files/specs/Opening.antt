-- What opening a file leaves, and why it is refused.
-- Source: `man 2 open` (O_CREAT, O_EXCL, O_TRUNC).
--     file_at_start number flags          a description of a file, at its start
--     opened t name flags                 the files then: the one of the name is there, empty with O_TRUNC
--     IsOpened old new name flags number  it was opened, and has this number
--     opening_at k p name flags           the plain row, from the descriptor's number on
--     IsRefusal fault a                   what is answered where it isn't opened
use Rattle.std.specs.Prelude.{◌≡◌, ℕ, List, None, if◌then◌else◌}
use Rattle.std.specs.FinMap as map
use Rattle.views.specs.Numbers.{Flags, Byte}
use Rattle.sys_abi.specs.declared.identity.VPid.{VPid}
use Rattle.sys_abi.specs.declared.errors.TheConstants.{ENOENT, EEXIST, ENOSPC}
use Rattle.sys_abi.specs.declared.flags.TheConstants.{O_TRUNC}
use Rattle.sys_abi.specs.Flags.{has_flag}
use Rattle.fd_tables.specs.declared.description.Desc.{Desc}
use Rattle.fd_tables.specs.declared.description.Object.TheVariants.{File}
use Rattle.vfs_files.specs.declared.file_fault.FileFault.{FileFault}
use Rattle.vfs_files.specs.declared.file_fault.FileFault.TheVariants.{NoEntry, Exists, Space, Memory}
use Rattle.vfs_files.specs.FileTable.{FileTable, truncated, open_refusal, number_of, after_open}
use Rattle.plain_process.specs.Attempts.{Try, ◌>>=◌}
use Rattle.plain_machine.specs.declared.kernel.PlainKernel.{PlainKernel}
use Rattle.plain_machine.specs.Attempts.{Served}
use Rattle.plain_machine.specs.Kernel.{free_from}
use Rattle.plain_machine.specs.Rows.Files.{open_at}
use Rattle.host_descriptors.specs.OfHostTables.declared.attempt.Attempt.{Attempt}
use Rattle.host_descriptors.specs.OfHostTables.declared.attempt.Attempt.TheVariants.{Fails}

abbrev pub file_at_start : ℕ → Flags → Desc
file_at_start number flags = record { object = File number 0; flags = flags; owner = None }

abbrev pub emptied : FileTable → ℕ → FileTable
emptied t number = record t { files = truncated t.files number }

abbrev pub opened : FileTable → List Byte → Flags → FileTable
opened t name flags =
    if has_flag flags O_TRUNC then emptied (after_open t name) (number_of t name) else after_open t name

pub record IsOpened (old new : FileTable) (name : List Byte) (flags : Flags) (number : ℕ) : Type 0 where
  pub allowed : open_refusal old name flags ≡ None
  pub number_is : number ≡ number_of old name
  pub files_are : new ≡ opened old name flags

unfoldable pub opening_at : PlainKernel → VPid → List Byte → Flags → Try Served
opening_at k p name flags = do
  fd ← free_from k p 0
  open_at k p name flags fd (map.get k.names name)

abbrev pub IsRefusal : FileFault → Attempt → Type 0
IsRefusal NoEntry a = a ≡ Fails (record { 0 = ENOENT })
IsRefusal Exists a = a ≡ Fails (record { 0 = EEXIST })
IsRefusal Space a = a ≡ Fails (record { 0 = ENOSPC })
IsRefusal Memory a = ⊥

-- Which calls a group of rows leaves to the next one.
--     IsNoFileCall q        it isn't on descriptors and files
--     IsNoProcessCall q     it isn't on processes
use Rattle.call_table.specs.declared.request.Request.{Request}
use Rattle.call_table.specs.declared.request.Request.TheVariants.{Eventfd2, Dup, Dup3, Fcntl, Unlinkat, Openat, Close, Pipe2, Lseek, Read, Write, Exit, ExitGroup, Kill, Tgkill, Getpid, Getppid, Clone, Wait4}

abbrev pub IsNoFileCall : Request → Type 0
IsNoFileCall (Eventfd2 value flags) = ⊥
IsNoFileCall (Dup fd) = ⊥
IsNoFileCall (Dup3 fd to flags) = ⊥
IsNoFileCall (Fcntl fd command argument) = ⊥
IsNoFileCall (Unlinkat directory path flags) = ⊥
IsNoFileCall (Openat directory path flags mode) = ⊥
IsNoFileCall (Close fd) = ⊥
IsNoFileCall (Pipe2 fds flags) = ⊥
IsNoFileCall (Lseek fd offset whence) = ⊥
IsNoFileCall (Read fd buffer count) = ⊥
IsNoFileCall (Write fd buffer count) = ⊥
IsNoFileCall _ = Unit {0}

abbrev pub IsNoProcessCall : Request → Type 0
IsNoProcessCall (Exit code) = ⊥
IsNoProcessCall (ExitGroup code) = ⊥
IsNoProcessCall (Kill number s) = ⊥
IsNoProcessCall (Tgkill number tid s) = ⊥
IsNoProcessCall Getpid = ⊥
IsNoProcessCall Getppid = ⊥
IsNoProcessCall (Clone flags stack parent_tid tls child_tid) = ⊥
IsNoProcessCall (Wait4 number status options usage) = ⊥
IsNoProcessCall _ = Unit {0}

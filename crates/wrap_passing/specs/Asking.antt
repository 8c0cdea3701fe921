-- A guest's call over real numbers, for the calls that pair and name nothing new.
--     real_of s p who q            the call over real numbers
--     argument_read, fcntl_of      what a command of fcntl reads of its argument, and fcntl over real numbers
--     target_in s p number         the process that an argument names
--     is_own_number                the call that tells the caller's own number
--     is_passed, is_making, is_wait      the families of calls that the kernel answers by that call
use Rattle.std.specs.Prelude.{ℕ, nat_lt, Bool, true, false, ◌||◌, Option, Some, None, if◌then◌else◌}
use Rattle.sys_abi.specs.declared.identity.VPid.{VPid}
use Rattle.sys_abi.specs.declared.identity.RealPid.{RealPid}
use Rattle.call_table.specs.declared.request.Request.{Request}
use Rattle.call_table.specs.declared.request.Request.TheVariants.{Eventfd2, Dup, Fcntl, Unlinkat, Openat, Lseek, Read, Write, Kill, Tgkill, Getpid, Getppid, Setsockopt, Shutdown, Wait4}
use Rattle.plain_process.specs.declared.commands.FcntlCommand.{FcntlCommand}
use Rattle.plain_process.specs.declared.commands.FcntlCommand.TheVariants.{GetFd, GetFl, GetOwn}
use Rattle.plain_process.specs.Commands.{fcntl_command}
use Rattle.plain_tables.specs.Tables.{FIRST_PID}
use Rattle.host_tables.specs.declared.request.RealRequest.{RealRequest}
use Rattle.host_tables.specs.declared.request.RealRequest.TheVariants as over
use Rattle.host_tables.specs.declared.system.System.{System}
use Rattle.host_tables.specs.Numbers.{to_real_thread}
use Rattle.wrap_names.specs.Naming.{desc_in, named_in, of_pipe_in}

-- a command that asks reads none
abbrev pub argument_read : Option FcntlCommand → ℕ → ℕ
argument_read (Some GetFd) argument = 0
argument_read (Some GetFl) argument = 0
argument_read (Some GetOwn) argument = 0
argument_read command argument = argument

-- no number below the first one is a process's
abbrev pub target_in : System → VPid → ℕ → Option RealPid
target_in s p number = if nat_lt number FIRST_PID then None else named_in s p number

abbrev pub fcntl_of : System → VPid → ℕ → ℕ → ℕ → RealRequest
fcntl_of s p fd command argument = over.Fcntl fd command argument (target_in s p argument)

unfoldable pub real_of : System → VPid → RealPid → Request → RealRequest
real_of s p who (Dup fd) = over.Dup fd
real_of s p who (Fcntl fd command argument) =
    fcntl_of s p fd command (argument_read (fcntl_command command) argument)
real_of s p who (Unlinkat directory path flags) = over.Unlinkat directory flags
real_of s p who (Lseek fd offset whence) = over.Lseek fd offset whence
real_of s p who (Read fd buffer count) = over.Read fd count
real_of s p who (Write fd buffer count) = over.Write fd count
real_of s p who (Kill number signal) = over.Kill number signal (named_in s p number)
real_of s p who (Tgkill number tid signal) =
    over.Tgkill number tid signal (named_in s p number) (to_real_thread s.ids.pids who.node tid)
real_of s p who Getpid = over.Getpid
real_of s p who Getppid = over.Getppid
real_of s p who (Eventfd2 value flags) = over.Eventfd2 value flags (desc_in s.conns.makers p)
real_of s p who (Openat directory path flags mode) = over.Openat directory flags (desc_in s.conns.makers p)
real_of s p who (Wait4 number status options usage) = over.Wait4 number options usage (named_in s p number)
real_of s p who (Setsockopt fd level name value length) = over.Setsockopt fd (of_pipe_in s who fd)
real_of s p who (Shutdown fd how) = over.Shutdown fd how (of_pipe_in s who fd)
real_of s p who _ = over.Unknown 0

-- this one is answered without the kernel
unfoldable pub is_own_number : Request → Bool
is_own_number Getpid = true
is_own_number _ = false

-- these change no pair, no name and no maker
unfoldable pub is_passed : Request → Bool
is_passed (Dup fd) = true
is_passed (Fcntl fd command argument) = true
is_passed (Unlinkat directory path flags) = true
is_passed (Lseek fd offset whence) = true
is_passed (Read fd buffer count) = true
is_passed (Write fd buffer count) = true
is_passed (Kill number signal) = true
is_passed (Tgkill number tid signal) = true
is_passed Getpid = true
is_passed Getppid = true
is_passed (Setsockopt fd level name value length) = true
is_passed (Shutdown fd how) = true
is_passed _ = false

-- these make one description
unfoldable pub is_making : Request → Bool
is_making (Eventfd2 value flags) = true
is_making (Openat directory path flags mode) = true
is_making _ = false

unfoldable pub is_wait : Request → Bool
is_wait (Wait4 number status options usage) = true
is_wait _ = false

-- what the kernel answers by the real call
abbrev pub is_served : Request → Bool
is_served q = is_passed q || is_making q || is_wait q

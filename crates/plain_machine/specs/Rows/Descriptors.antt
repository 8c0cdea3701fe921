-- dup(fd), dup3(fd, to, flags), fcntl(fd, command, argument), close(fd) (`man 2 dup`, `man 2 fcntl`,
-- `man 2 close`).
use Rattle.std.specs.Prelude.{◌==◌, ◌%◌, ◌||◌, ℕ, Bool, true, false, not, ◌&&◌, bit_and, bit_or, nat_lt, Option, Some, None, if◌then◌else◌}
use Rattle.plain_tables.specs.OfViews.Numbers.{Flags}
use Rattle.plain_tables.specs.OfViews.Limits.{DESCRIPTOR_LIMIT}
use Rattle.plain_tables.specs.OfSysAbi.declared.identity.VPid.{VPid}
use Rattle.plain_tables.specs.OfSysAbi.declared.errors.TheConstants.{EBADF, EINVAL, ESRCH}
use Rattle.plain_tables.specs.OfSysAbi.declared.flags.TheConstants.{O_CLOEXEC}
use Rattle.plain_tables.specs.OfSysAbi.Clones.{without_bits}
use Rattle.plain_machine.specs.declared.kernel.PlainKernel.{PlainKernel}
use Rattle.plain_tables.specs.OfPlainProcess.declared.commands.FcntlCommand.{FcntlCommand}
use Rattle.plain_tables.specs.OfPlainProcess.declared.commands.FcntlCommand.TheVariants.{DupFd, GetFd, SetFd, GetFl, SetFl, SetOwn, GetOwn, DupFdCloexec}
use Rattle.plain_tables.specs.OfPlainProcess.Attempts.{Try, Fails, need, ◌>>=◌, ◌>>◌}
use Rattle.plain_machine.specs.Attempts.{Served, replied}
use Rattle.plain_tables.specs.OfPlainProcess.Commands.{fcntl_command}
use Rattle.plain_machine.specs.Kernel.{Held, held, free_from, is_neighbour, with_descriptor, with_description}
use Rattle.plain_machine.specs.Closing.{close_fd}

-- the free descriptor from a number on refers to the same description
abbrev pub dup_from : PlainKernel → VPid → Held → ℕ → Bool → Try Served
dup_from k p h from cloexec = do
  fd ← free_from k p from
  replied (with_descriptor k p fd (record { desc = h.desc; cloexec = cloexec })) fd

unfoldable pub dup_row : PlainKernel → VPid → ℕ → Try Served
dup_row k p fd = do
  h ← held k p fd
  dup_from k p h 0 false

-- no flag but O_CLOEXEC
abbrev pub is_cloexec_at_most : Flags → Bool
is_cloexec_at_most flags = (flags == 0) || (flags == O_CLOEXEC)

-- a descriptor closes, and then refers to the description
abbrev pub moved_to : PlainKernel → VPid → Held → ℕ → Bool → PlainKernel
moved_to k p h to cloexec =
    with_descriptor (close_fd k p to) p to (record { desc = h.desc; cloexec = cloexec })

unfoldable pub dup3_row : PlainKernel → VPid → ℕ → ℕ → Flags → Try Served
dup3_row k p fd to flags = do
  h ← held k p fd
  need (not (to == fd) && is_cloexec_at_most flags) EINVAL
  need (nat_lt to DESCRIPTOR_LIMIT) EBADF
  replied (moved_to k p h to (flags == O_CLOEXEC)) to

-- fcntl's commands

unfoldable pub dup_above : PlainKernel → VPid → Held → ℕ → Bool → Try Served
dup_above k p h argument cloexec = do
  need (nat_lt argument DESCRIPTOR_LIMIT) EINVAL
  dup_from k p h argument cloexec

-- the flags that can be set
abbrev pub SETTABLE_FLAGS : ℕ
SETTABLE_FLAGS = 0xC00

-- O_APPEND and O_NONBLOCK as the argument has them
abbrev pub set_flags : Flags → ℕ → Flags
set_flags flags argument = bit_or (without_bits flags SETTABLE_FLAGS) (bit_and argument SETTABLE_FLAGS)

abbrev pub with_flags : PlainKernel → Held → Flags → PlainKernel
with_flags k h flags = with_description k h.desc (record h.description { flags = flags })

abbrev pub with_owner : PlainKernel → Held → ℕ → PlainKernel
with_owner k h owner = with_description k h.desc (record h.description { owner = owner })

-- nobody, or a live process of the caller's host
abbrev pub may_own : PlainKernel → VPid → ℕ → Bool
may_own k p owner = (owner == 0) || is_neighbour k p owner

unfoldable pub set_owner : PlainKernel → VPid → Held → ℕ → Try Served
set_owner k p h owner = do
  need (may_own k p owner) ESRCH
  replied (with_owner k h owner) 0

abbrev pub fcntl_by : PlainKernel → VPid → ℕ → Held → ℕ → Option FcntlCommand → Try Served
fcntl_by k p fd h argument None = Fails EINVAL
fcntl_by k p fd h argument (Some DupFd) = dup_above k p h argument false
fcntl_by k p fd h argument (Some DupFdCloexec) = dup_above k p h argument true
fcntl_by k p fd h argument (Some GetFd) = replied k (if h.cloexec then 1 else 0)
fcntl_by k p fd h argument (Some SetFd) =
    replied (with_descriptor k p fd (record { desc = h.desc; cloexec = argument % 2 == 1 })) 0
fcntl_by k p fd h argument (Some GetFl) = replied k h.description.flags
fcntl_by k p fd h argument (Some SetFl) = replied (with_flags k h (set_flags h.description.flags argument)) 0
fcntl_by k p fd h argument (Some SetOwn) = set_owner k p h argument
fcntl_by k p fd h argument (Some GetOwn) = replied k h.description.owner

unfoldable pub fcntl_row : PlainKernel → VPid → ℕ → ℕ → ℕ → Try Served
fcntl_row k p fd command argument = do
  h ← held k p fd
  fcntl_by k p fd h argument (fcntl_command command)

unfoldable pub close_row : PlainKernel → VPid → ℕ → Try Served
close_row k p fd = do
  held k p fd
  replied (close_fd k p fd) 0

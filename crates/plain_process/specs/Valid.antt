-- What holds of the part of each process that a run reaches: a fact a topic, each over the maps that it
-- speaks of.
-- Source: the limits of docs/MACHINE.md.
--     IsUser user      of one process's part      IsRequest q     of a call that a thread asks for
--     CanAdd user q reply      of a process whose thread gets this answer
use Rattle.std.specs.Prelude.{◌≡◌, ◌≢◌, ℕ, ◌*◌, ◌%◌, ◌^◌, ◌<◌, ◌≤◌, nat_lt, true, length, slice_index, Option, Some, None, is_some, All, AllPairs}
use Rattle.std.specs.Ordering.{nat_cmp}
use Rattle.std.specs.declared.cmp.Ordering.{Ordering}
use Rattle.std.specs.FinMap as map
use Rattle.elf32.specs.OfViews.Numbers.{Address}
use Rattle.elf32.specs.OfViews.Limits.{THREAD_LIMIT, CONTEXT_LIMIT, PAGE_LIMIT, BREAK_LIMIT}
use Rattle.call_table.specs.declared.request.Request.{Request}
use Rattle.call_table.specs.declared.request.Request.TheVariants.{Eventfd2, Dup, Dup3, Fcntl, Unlinkat, Openat, Close, Pipe2, Lseek, Read, Write, Exit, ExitGroup, SetTidAddress, Futex, Kill, Tgkill, RtSigaction, RtSigprocmask, Socket, Socketpair, Bind, Listen, Accept, Connect, Getsockname, Getpeername, Setsockopt, Shutdown, Brk, Munmap, Clone, Mmap, Wait4, Unknown}
use Rattle.call_table.specs.OfSysAbi.declared.reply.Reply.{Reply}
use Rattle.plain_process.specs.declared.memory.Frame.{Frame}
use Rattle.plain_process.specs.declared.regs.Regs.{Regs}
use Rattle.plain_process.specs.declared.user_part.UserPart.{UserPart}
use Rattle.plain_process.specs.declared.user_part.ThreadPart.{ThreadPart}
use Rattle.plain_process.specs.declared.user_part.SignalAction.{SignalAction}
use Rattle.plain_process.specs.declared.user_part.Waiter.{Waiter}
use Rattle.plain_process.specs.Memory.{Memory}
use Rattle.plain_process.specs.Put.{added_thread}
use Rattle.plain_process.specs.Start.{RETURN_PAGE, return_frame}

abbrev pub IsWord : ℕ → Type 0
IsWord n = n < 2 ^ 32

abbrev pub IsByte : ℕ → Type 0
IsByte n = n < 2 ^ 8

-- a fact of each value of a map, with its key
abbrev pub Each : {K X : Type 0} {R : K → K → Ordering} → map.FinMap R X → (K → X → Type 0) → Type 0
Each {K} {X} m P = (key : K) (value : X) → map.get m key ≡ Some value → P key value

-- x0 is 0
pub record IsRegs (regs : Regs) : Type 0 where
  pub count : length regs.x ≡ 32
  pub zero : slice_index regs.x 0 ≡ 0
  pub words : All IsWord regs.x
  pub pc : IsWord regs.pc

pub record IsFrame (place : ℕ) (frame : Frame) : Type 0 where
  pub number : place < 2 ^ 20
  pub rights : frame.rights < 8
  pub size : length frame.page ≡ 4096
  pub bytes : All IsByte frame.page

pub record IsThread (thread : ThreadPart) : Type 0 where
  pub regs : IsRegs thread.regs
  pub mask : IsWord thread.mask
  pub clear_tid : IsWord thread.clear_tid
  pub count : length thread.contexts ≤ CONTEXT_LIMIT
  pub contexts : All (λ context. IsRegs context.regs × IsWord context.mask) thread.contexts

pub record IsAction (action : SignalAction) : Type 0 where
  pub handler : IsWord action.handler
  pub flags : IsWord action.flags
  pub mask : IsWord action.mask

-- a thread of the process waits on a word
pub record IsWaiter (threads : map.FinMap nat_cmp ThreadPart) (waiter : Waiter) : Type 0 where
  pub thread : is_some (map.get threads waiter.tid) ≡ true
  pub address : IsWord waiter.address

-- of the pages from the break's start to below 0x40000000 those are there that hold a byte below the break,
-- and no others
abbrev pub IsHeap : Memory → Address → Address → Type 0
IsHeap memory break_start break_end =
    (place : ℕ) → break_start ≤ 4096 * place → place < 0x40000
    → is_some (map.get memory place) ≡ nat_lt (4096 * place) break_end

pub record IsUser (user : UserPart) : Type 0 where
  pub pages : map.len user.memory ≤ PAGE_LIMIT
  pub memory : Each user.memory IsFrame
  pub return_page : map.get user.memory RETURN_PAGE ≡ Some return_frame
  pub break_start : user.break_start % 4096 ≡ 0
  pub break_order : user.break_start ≤ user.break_end
  pub break_limit : user.break_end ≤ BREAK_LIMIT
  pub heap : IsHeap user.memory user.break_start user.break_end
  pub thread_count : map.len user.threads ≤ THREAD_LIMIT
  pub thread_numbers : Each user.threads (λ t thread. IsWord t)
  pub threads : Each user.threads (λ t thread. IsThread thread)
  pub actions : length user.actions ≡ 31
  pub handlers : All IsAction user.actions
  pub waiters : All (IsWaiter user.threads) user.waiters
  pub waiters_apart : AllPairs (λ waiter later. waiter.tid ≢ later.tid) user.waiters

-- what a call names are words: it was read off registers
unfoldable pub IsRequest : Request → Type 0
IsRequest (Eventfd2 value flags) = IsWord value × IsWord flags
IsRequest (Dup fd) = IsWord fd
IsRequest (Dup3 fd to flags) = IsWord fd × IsWord to × IsWord flags
IsRequest (Fcntl fd command argument) = IsWord fd × IsWord command × IsWord argument
IsRequest (Unlinkat directory path flags) = IsWord directory × IsWord path × IsWord flags
IsRequest (Openat directory path flags mode) = IsWord directory × IsWord path × IsWord flags × IsWord mode
IsRequest (Close fd) = IsWord fd
IsRequest (Pipe2 fds flags) = IsWord fds × IsWord flags
IsRequest (Lseek fd offset whence) = IsWord fd × IsWord offset × IsWord whence
IsRequest (Read fd buffer count) = IsWord fd × IsWord buffer × IsWord count
IsRequest (Write fd buffer count) = IsWord fd × IsWord buffer × IsWord count
IsRequest (Exit code) = IsWord code
IsRequest (ExitGroup code) = IsWord code
IsRequest (SetTidAddress place) = IsWord place
IsRequest (Futex address operation value timeout) = IsWord address × IsWord operation × IsWord value × IsWord timeout
IsRequest (Kill pid signal) = IsWord pid × IsWord signal
IsRequest (Tgkill pid tid signal) = IsWord pid × IsWord tid × IsWord signal
IsRequest (RtSigaction signal action old_action size) = IsWord signal × IsWord action × IsWord old_action × IsWord size
IsRequest (RtSigprocmask how set old_set size) = IsWord how × IsWord set × IsWord old_set × IsWord size
IsRequest (Socket domain socket_type protocol) = IsWord domain × IsWord socket_type × IsWord protocol
IsRequest (Socketpair domain socket_type protocol fds) = IsWord domain × IsWord socket_type × IsWord protocol × IsWord fds
IsRequest (Bind fd address length) = IsWord fd × IsWord address × IsWord length
IsRequest (Listen fd backlog) = IsWord fd × IsWord backlog
IsRequest (Accept fd address length) = IsWord fd × IsWord address × IsWord length
IsRequest (Connect fd address length) = IsWord fd × IsWord address × IsWord length
IsRequest (Getsockname fd address length) = IsWord fd × IsWord address × IsWord length
IsRequest (Getpeername fd address length) = IsWord fd × IsWord address × IsWord length
IsRequest (Setsockopt fd level name value length) = IsWord fd × IsWord level × IsWord name × IsWord value × IsWord length
IsRequest (Shutdown fd how) = IsWord fd × IsWord how
IsRequest (Brk address) = IsWord address
IsRequest (Munmap address length) = IsWord address × IsWord length
IsRequest (Clone flags stack parent_tid tls child_tid) = IsWord flags × IsWord stack × IsWord parent_tid × IsWord tls × IsWord child_tid
IsRequest (Mmap address length protection flags fd offset) = IsWord address × IsWord length × IsWord protection × IsWord flags × IsWord fd × IsWord offset
IsRequest (Wait4 pid status options usage) = IsWord pid × IsWord status × IsWord options × IsWord usage
IsRequest (Unknown number) = IsWord number
IsRequest q = Unit {0}

-- where an answer adds a thread, its number is free, and there is room for one more
abbrev pub CanAddAs : UserPart → Option ℕ → Type 0
CanAddAs user None = Unit {0}
CanAddAs user (Some new) = IsWord new × (map.get user.threads new ≡ None) × (map.len user.threads < THREAD_LIMIT)

abbrev pub CanAdd : UserPart → Request → Reply → Type 0
CanAdd user q reply = CanAddAs user (added_thread q reply)

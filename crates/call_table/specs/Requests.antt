-- The table of calls: which number is which call, and which arguments it takes.
-- Source: the system call convention of RISC-V Linux (`man 2 syscall`: the number in a7, arguments in a0 to
-- a5); the numbers are this project's list.
use Rattle.std.specs.Prelude.{◌==◌, ℕ, Bool, true, false, List, [], ◌∷◌, slice_index, if◌then◌else◌}
use Rattle.call_table.specs.declared.request.Request.{Request}
use Rattle.call_table.specs.declared.request.Request.TheVariants.{Eventfd2, Dup, Dup3, Fcntl, Unlinkat, Openat, Close, Pipe2, Lseek, Read, Write, Exit, ExitGroup, SetTidAddress, Futex, SchedYield, Kill, Tgkill, RtSigaction, RtSigprocmask, RtSigreturn, Getpid, Getppid, Gettid, Socket, Socketpair, Bind, Listen, Accept, Connect, Getsockname, Getpeername, Setsockopt, Shutdown, Brk, Munmap, Clone, Mmap, Wait4, Unknown}
use Rattle.call_table.specs.declared.calls.TheConstants.{EVENTFD2, DUP, DUP3, FCNTL, UNLINKAT, OPENAT, CLOSE, PIPE2, LSEEK, READ, WRITE, EXIT, EXIT_GROUP, SET_TID_ADDRESS, FUTEX, SCHED_YIELD, KILL, TGKILL, RT_SIGACTION, RT_SIGPROCMASK, RT_SIGRETURN, GETPID, GETPPID, GETTID, SOCKET, SOCKETPAIR, BIND, LISTEN, ACCEPT, CONNECT, GETSOCKNAME, GETPEERNAME, SETSOCKOPT, SHUTDOWN, BRK, MUNMAP, CLONE, MMAP, WAIT4}

-- the call of a number with six arguments
unfoldable pub request_by : ℕ → List ℕ → Request
request_by number arguments =
    let a = slice_index arguments 0 in
    let b = slice_index arguments 1 in
    let c = slice_index arguments 2 in
    let d = slice_index arguments 3 in
    let e = slice_index arguments 4 in
    let f = slice_index arguments 5 in
    if number == EVENTFD2 then Eventfd2 a b else
    if number == DUP then Dup a else
    if number == DUP3 then Dup3 a b c else
    if number == FCNTL then Fcntl a b c else
    if number == UNLINKAT then Unlinkat a b c else
    if number == OPENAT then Openat a b c d else
    if number == CLOSE then Close a else
    if number == PIPE2 then Pipe2 a b else
    if number == LSEEK then Lseek a b c else
    if number == READ then Read a b c else
    if number == WRITE then Write a b c else
    if number == EXIT then Exit a else
    if number == EXIT_GROUP then ExitGroup a else
    if number == SET_TID_ADDRESS then SetTidAddress a else
    if number == FUTEX then Futex a b c d else
    if number == SCHED_YIELD then SchedYield else
    if number == KILL then Kill a b else
    if number == TGKILL then Tgkill a b c else
    if number == RT_SIGACTION then RtSigaction a b c d else
    if number == RT_SIGPROCMASK then RtSigprocmask a b c d else
    if number == RT_SIGRETURN then RtSigreturn else
    if number == GETPID then Getpid else
    if number == GETPPID then Getppid else
    if number == GETTID then Gettid else
    if number == SOCKET then Socket a b c else
    if number == SOCKETPAIR then Socketpair a b c d else
    if number == BIND then Bind a b c else
    if number == LISTEN then Listen a b else
    if number == ACCEPT then Accept a b c else
    if number == CONNECT then Connect a b c else
    if number == GETSOCKNAME then Getsockname a b c else
    if number == GETPEERNAME then Getpeername a b c else
    if number == SETSOCKOPT then Setsockopt a b c d e else
    if number == SHUTDOWN then Shutdown a b else
    if number == BRK then Brk a else
    if number == MUNMAP then Munmap a b else
    if number == CLONE then Clone a b c d e else
    if number == MMAP then Mmap a b c d e f else
    if number == WAIT4 then Wait4 a b c d else
    Unknown number

-- the call at which a thread with these 32 registers stands
abbrev pub request_of : List ℕ → Request
request_of regs =
    request_by (slice_index regs 17)
    (slice_index regs 10 ∷ slice_index regs 11 ∷ slice_index regs 12
    ∷ slice_index regs 13 ∷ slice_index regs 14 ∷ slice_index regs 15 ∷ [])

-- the calls that a process answers alone
abbrev pub is_local : Request → Bool
is_local (SetTidAddress _) = true
is_local (Futex _ _ _ _) = true
is_local SchedYield = true
is_local (RtSigaction _ _ _ _) = true
is_local (RtSigprocmask _ _ _ _) = true
is_local RtSigreturn = true
is_local Gettid = true
is_local (Brk _) = true
is_local (Munmap _ _) = true
is_local (Mmap _ _ _ _ _ _) = true
is_local _ = false

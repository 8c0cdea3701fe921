-- What a call names that a thread asks for are words: they are read off its registers.
--     asked_is_request
use Rattle.std.proofs.Common.{◌≡◌, ℕ, Bool, true, false, cond, List, [], ◌∷◌, length, refl, sym, subst, arith, ⊎_elim}
use Rattle.std.specs.Prelude.{◌==◌, Option, Some, None, All, slice_index}
use Rattle.std.specs.FinMap as map
use Rattle.std.proofs.lemmas.Bool.{cases_lt}
use Rattle.std.proofs.lemmas.List.{get_or_past}
use Rattle.std.proofs.lemmas.List.Elements.{All-from_recursion}
use Rattle.plain_tables.specs.OfCallTable.declared.request.Request.{Request}
use Rattle.plain_tables.specs.OfCallTable.Requests.{request_by, request_of}
use Rattle.plain_tables.specs.OfCallTable.declared.calls.TheConstants.{EVENTFD2, DUP, DUP3, FCNTL, UNLINKAT, OPENAT, CLOSE, PIPE2, LSEEK, READ, WRITE, EXIT, EXIT_GROUP, SET_TID_ADDRESS, FUTEX, SCHED_YIELD, KILL, TGKILL, RT_SIGACTION, RT_SIGPROCMASK, RT_SIGRETURN, GETPID, GETPPID, GETTID, SOCKET, SOCKETPAIR, BIND, LISTEN, ACCEPT, CONNECT, GETSOCKNAME, GETPEERNAME, SETSOCKOPT, SHUTDOWN, BRK, MUNMAP, CLONE, MMAP, WAIT4}
use Rattle.plain_tables.specs.OfPlainProcess.declared.user_part.UserPart.{UserPart}
use Rattle.plain_tables.specs.OfPlainProcess.declared.user_part.ThreadPart.{ThreadPart}
use Rattle.plain_tables.specs.OfPlainProcess.Instructions.{Effect, Next, Calls, Traps}
use Rattle.plain_tables.specs.OfPlainProcess.Steps.{effect_at, UserStep, Asks, Waits, waits, step_by, step_of, user_step}
use Rattle.plain_tables.specs.OfPlainProcess.Valid.{IsWord, IsUser, IsRequest}
use Rattle.plain_machine.specs.Laws.{AskedIsRequest}

-- the word at any place of a list of words, 0 past its end
word_of_list : (words : List ℕ) (i : ℕ) → All IsWord words → IsWord (slice_index words i)
word_of_list words i are = ⊎_elim (λ inside. are i 0 inside) (λ past. subst IsWord (sym (get_or_past words i 0 past)) (omega arith)) (cases_lt i (length words))

record AreWords (q : Request) : Type 0 where
  words : IsRequest q

naming : (q : Request) → IsRequest q → AreWords q
naming q words = record { words = words }

or_else : (b : Bool) (first second : Request) → AreWords first → AreWords second → AreWords (cond b first second)
or_else true first second holds other = holds
or_else false first second other holds = holds

module _ (arguments : List ℕ) (are : (i : ℕ) → IsWord (slice_index arguments i)) where
  request_words : (number : ℕ) → IsWord number → AreWords (request_by number arguments)
  unfolding request_by IsRequest
  request_words number small =
      let one : IsWord (slice_index arguments 0) = are 0 in
      let two : IsWord (slice_index arguments 0) × IsWord (slice_index arguments 1) = (are 0, are 1) in
      let three : IsWord (slice_index arguments 0) × IsWord (slice_index arguments 1) × IsWord (slice_index arguments 2) = (are 0, are 1, are 2) in
      let four : IsWord (slice_index arguments 0) × IsWord (slice_index arguments 1) × IsWord (slice_index arguments 2) × IsWord (slice_index arguments 3) = (are 0, are 1, are 2, are 3) in
      let five : IsWord (slice_index arguments 0) × IsWord (slice_index arguments 1) × IsWord (slice_index arguments 2) × IsWord (slice_index arguments 3) × IsWord (slice_index arguments 4) = (are 0, are 1, are 2, are 3, are 4) in
      let six : IsWord (slice_index arguments 0) × IsWord (slice_index arguments 1) × IsWord (slice_index arguments 2) × IsWord (slice_index arguments 3) × IsWord (slice_index arguments 4) × IsWord (slice_index arguments 5) = (are 0, are 1, are 2, are 3, are 4, are 5) in
      or_else (number == EVENTFD2) _ _ (naming _ two) (or_else (number == DUP) _ _ (naming _ one) (or_else (number == DUP3) _ _ (naming _ three) (
      or_else (number == FCNTL) _ _ (naming _ three) (or_else (number == UNLINKAT) _ _ (naming _ three) (or_else (number == OPENAT) _ _ (naming _ four) (
      or_else (number == CLOSE) _ _ (naming _ one) (or_else (number == PIPE2) _ _ (naming _ two) (or_else (number == LSEEK) _ _ (naming _ three) (
      or_else (number == READ) _ _ (naming _ three) (or_else (number == WRITE) _ _ (naming _ three) (or_else (number == EXIT) _ _ (naming _ one) (
      or_else (number == EXIT_GROUP) _ _ (naming _ one) (or_else (number == SET_TID_ADDRESS) _ _ (naming _ one) (or_else (number == FUTEX) _ _ (naming _ four) (
      or_else (number == SCHED_YIELD) _ _ (naming _ tt) (or_else (number == KILL) _ _ (naming _ two) (or_else (number == TGKILL) _ _ (naming _ three) (
      or_else (number == RT_SIGACTION) _ _ (naming _ four) (or_else (number == RT_SIGPROCMASK) _ _ (naming _ four) (or_else (number == RT_SIGRETURN) _ _ (naming _ tt) (
      or_else (number == GETPID) _ _ (naming _ tt) (or_else (number == GETPPID) _ _ (naming _ tt) (or_else (number == GETTID) _ _ (naming _ tt) (
      or_else (number == SOCKET) _ _ (naming _ three) (or_else (number == SOCKETPAIR) _ _ (naming _ four) (or_else (number == BIND) _ _ (naming _ three) (
      or_else (number == LISTEN) _ _ (naming _ two) (or_else (number == ACCEPT) _ _ (naming _ three) (or_else (number == CONNECT) _ _ (naming _ three) (
      or_else (number == GETSOCKNAME) _ _ (naming _ three) (or_else (number == GETPEERNAME) _ _ (naming _ three) (or_else (number == SETSOCKOPT) _ _ (naming _ five) (
      or_else (number == SHUTDOWN) _ _ (naming _ two) (or_else (number == BRK) _ _ (naming _ one) (or_else (number == MUNMAP) _ _ (naming _ two) (
      or_else (number == CLONE) _ _ (naming _ five) (or_else (number == MMAP) _ _ (naming _ six) (or_else (number == WAIT4) _ _ (naming _ four) (
      naming _ small)))))))))))))))))))))))))))))))))))))))

request_of_words : (regs : List ℕ) → All IsWord regs → IsRequest (request_of regs)
request_of_words regs are =
    let arguments = slice_index regs 10 ∷ slice_index regs 11 ∷ slice_index regs 12 ∷ slice_index regs 13 ∷ slice_index regs 14 ∷ slice_index regs 15 ∷ [] in
    let all : All IsWord arguments = All-from_recursion IsWord arguments (word 10, (word 11, (word 12, (word 13, (word 14, (word 15, tt)))))) in
    (request_words arguments (λ i. word_of_list arguments i all) (slice_index regs 17) (word 17)).words
  where
    word : (i : ℕ) → IsWord (slice_index regs i)
    word i = word_of_list regs i are

-- where a thread stands
record Asking (at : UserStep) : Type 0 where
  each : (q : Request) → at ≡ Asks q → IsRequest q

asks_by : (user : UserPart) (t : ℕ) (thread : ThreadPart) (done : Effect) → All IsWord thread.regs.x → Asking (step_by user t thread done)
asks_by user t thread (Next regs memory) are = record { each = λ q is. cc }
asks_by user t thread Calls are = record { each = λ q is. let same : request_of thread.regs.x ≡ q = cc in subst IsRequest same (request_of_words thread.regs.x are) }
asks_by user t thread (Traps s) are = record { each = λ q is. cc }

unless_waiting : (b : Bool) (next : UserStep) → Asking next → Asking (cond b Waits next)
unless_waiting true next asking = record { each = λ q is. cc }
unless_waiting false next asking = asking

asks_of : (user : UserPart) (t : ℕ) (found : Option ThreadPart) → IsUser user → map.get user.threads t ≡ found → Asking (step_of user t found)
asks_of user t None is there = record { each = λ q is. cc }
asks_of user t (Some thread) is there = unless_waiting (waits user t) _ (asks_by user t thread (effect_at thread.regs user.memory) (is.threads t thread there).regs.words)

pub asked_is_request : AskedIsRequest
unfolding user_step
asked_is_request user t q is asks = (asks_of user t (map.get user.threads t) is refl).each q asks

-- All processes of all nodes, and what calls do to them.
-- Source: `man 2 wait4`, `man 2 kill`; that a node's numbers rise and the limits are this project's own
-- rules.
--     next_of t node                    the number that the node hands out next
--     has_number t node                 the node is there and has a number left
--     after_start, after_add_thread     a process more, or a thread more, with that number
--     is_full t, threads_at m p         as many processes stand as may;  how many threads a process has
--     can_raise, after_raise            the process lives, with the thread if one is named; the signal is pending for it then
--     is_taken, after_take              the signal is pending for the thread or the process; it is no more
--     pending, pending_of               the signals pending for the thread or the process; for one of them alone
--     next_thread, status_of            the least thread above a number;  the status of a zombie
--     after_end_thread                  the thread is gone
--     is_above above r                  r comes after that one; each comes after none
--     wait_for m p child                what a wait finds: no such child, none that has ended, or the least one with its status
--     waited, after_wait                its answer;  the processes then
--     IsUnused processes node number    no process and no thread of the node has the number or a greater one
use Rattle.std.specs.Prelude.{◌≡◌, ℕ, ◌+◌, ◌<◌, ◌^◌, nat_lt, nat_le, length, Bool, true, false, ◌&&◌, List, [], ◌∷◌, slice_index, slice_set, bit_or, find, Option, Some, None, Result, Ok, Err, refl, is_some, if◌then◌else◌}
use Rattle.std.specs.Option.{option_map_or}
use Rattle.std.specs.Ordering.{is_lt}
use Rattle.std.specs.Coded.{Coded, code_by, coded×, coded_ℕ, coded_list}
use Rattle.std.specs.FinMap as map
use Rattle.views.specs.NumberMap.{is_above as is_after}
use Rattle.virt_ids.specs.OfSysAbi.declared.identity.RealPid.{RealPid}
use Rattle.virt_ids.specs.OfSysAbi.Orders.{real_pid_cmp, coded_real_pid}
use Rattle.proc_book.specs.declared.process.Process.{Process}
use Rattle.proc_book.specs.contracts.process.Process as process
use Rattle.virt_ids.specs.OfSysAbi.declared.life.Life.{Life}
use Rattle.virt_ids.specs.OfSysAbi.declared.life.Life.TheVariants.{Live, Zombie}
use Rattle.proc_book.specs.declared.limits.TheConstants.{PROCESS_LIMIT}
use Rattle.proc_book.specs.declared.waiting.Waiting.{Waiting}
use Rattle.proc_book.specs.declared.waiting.Waiting.TheVariants.{NoChild, NotReady, Ended}
use Rattle.proc_book.specs.declared.proc_fault.ProcFault.{ProcFault}
use Rattle.proc_book.specs.declared.proc_fault.ProcFault.TheVariants as fault
use Rattle.virt_ids.specs.Changes.{at_key}
use Rattle.proc_book.specs.Processes.{newborn, is_child_of, lives_with, signals_of, raised, has_either, after_take as without_signal_of}
use Rattle.proc_book.specs.Ends.{Processes}

abbrev pub real : ℕ → ℕ → RealPid
real node pid = record { node = node; pid = pid }

pub record ProcTable : Type 0 where
  pub processes : Processes
  pub next : List ℕ

abbrev pub next_of : ProcTable → ℕ → ℕ
next_of t node = slice_index t.next node

abbrev pub has_number : ProcTable → ℕ → Bool
has_number t node = nat_lt node (length t.next) && nat_lt (next_of t node) (2 ^ 32)

-- as many processes stand as may
abbrev pub is_full : ProcTable → Bool
is_full t = nat_le PROCESS_LIMIT (map.len t.processes)

abbrev pub after_start : ProcTable → ℕ → Option RealPid → ProcTable
after_start t node parent = record {
  processes = map.insert t.processes (real node (next_of t node)) (newborn parent (next_of t node));
  next = slice_set t.next node (next_of t node + 1);
}

abbrev pub with_thread : ℕ → Process → Process
with_thread number process = record process { threads = map.insert process.threads number 0 }

abbrev pub after_add_thread : ProcTable → RealPid → ProcTable
after_add_thread t p = record {
  processes = at_key t.processes p (with_thread (next_of t p.node));
  next = slice_set t.next p.node (next_of t p.node + 1);
}

abbrev pub threads_at : Processes → RealPid → ℕ
threads_at m p = option_map_or (λ process. map.len process.threads) (map.get m p) 0

abbrev pub can_raise : Processes → RealPid → Option ℕ → Bool
can_raise m p t = option_map_or (lives_with t) (map.get m p) false

abbrev pub after_raise : Processes → RealPid → Option ℕ → ℕ → Processes
after_raise m p t s = if can_raise m p t then at_key m p (raised t s) else m

abbrev pub is_taken : Processes → RealPid → ℕ → ℕ → Bool
is_taken m p t s = option_map_or (has_either t s) (map.get m p) false

abbrev pub after_take : Processes → RealPid → ℕ → ℕ → Processes
after_take m p t s = at_key m p (without_signal_of t s)

abbrev pub without_thread : ℕ → Process → Process
without_thread t process = record process { threads = map.remove process.threads t }

abbrev pub after_end_thread : Processes → RealPid → ℕ → Processes
after_end_thread m p t = at_key m p (without_thread t)

abbrev pub pending_at : ℕ → Option Process → ℕ
pending_at t None = 0
pending_at t (Some process) = bit_or process.pending (signals_of t process)

abbrev pub pending : Processes → RealPid → ℕ → ℕ
pending m p t = pending_at t (map.get m p)

abbrev pub pending_of : Option ℕ → Option Process → ℕ
pending_of t None = 0
pending_of None (Some process) = process.pending
pending_of (Some t) (Some process) = signals_of t process

abbrev pub next_thread : ℕ → Option Process → Option ℕ
next_thread above None = None
next_thread above (Some process) = find (is_after (Some above)) (map.keys process.threads)

abbrev pub status_by : Life → Option ℕ
status_by Live = None
status_by (Zombie status) = Some status

abbrev pub status_of : Process → Option ℕ
status_of process = status_by process.life

abbrev pub is_above : Option RealPid → RealPid → Bool
is_above None r = true
is_above (Some above) r = is_lt (real_pid_cmp above r)

-- of one child
abbrev pub wait_of : RealPid → Life → Waiting
wait_of r Live = NotReady
wait_of r (Zombie status) = Ended r status

abbrev pub wait_by : RealPid → RealPid → Option Process → Waiting
wait_by p r None = NoChild
wait_by p r (Some process) = if is_child_of p process then wait_of r process.life else NoChild

-- of the children in their order, the first one that has ended
abbrev pub ended_first : RealPid → Life → Waiting → Waiting
ended_first r (Zombie status) later = Ended r status
ended_first r Live (Ended q status) = Ended q status
ended_first r Live NoChild = NotReady
ended_first r Live NotReady = NotReady

abbrev pub wait_any : RealPid → List (RealPid × Process) → Waiting
wait_any p [] = NoChild
wait_any p (e ∷ es) = if is_child_of p e.1 then ended_first e.0 e.1.life (wait_any p es) else wait_any p es

abbrev pub wait_for : Processes → RealPid → Option RealPid → Waiting
wait_for m p None = wait_any p (map.entries m)
wait_for m p (Some child) = wait_by p child (map.get m child)

-- the answer of that, and the processes then: one that was waited for is gone
abbrev pub waited : Waiting → Result (RealPid × ℕ) ProcFault
waited NoChild = Err fault.NoChild
waited NotReady = Err fault.NotReady
waited (Ended r status) = Ok (r, status)

abbrev pub after_wait : Waiting → Processes → Processes
after_wait NoChild m = m
after_wait NotReady m = m
after_wait (Ended r status) m = map.remove m r

pub record IsBelow (number : ℕ) (r : RealPid) (process : Process) : Type 0 where
  pub own : r.pid < number
  pub threads : (t : ℕ) → is_some (map.get process.threads t) ≡ true → t < number

abbrev pub IsUnused : Processes → ℕ → ℕ → Type 0
IsUnused m node number = (r : RealPid) (process : Process) → map.get m r ≡ Some process → r.node ≡ node → IsBelow number r process

-- each number in the map was handed out
abbrev pub AllHandedOut : Processes → List ℕ → Type 0
AllHandedOut m next = (r : RealPid) (process : Process) → map.get m r ≡ Some process → IsBelow (slice_index next r.node) r process

abbrev pub coded_table : Coded ProcTable
coded_table =
    code_by (Processes × List ℕ) (coded× (map.code coded_real_pid process.the_row.coded) (coded_list coded_ℕ)) (λ t. (t.processes, t.next)) (λ p. record { processes = p.0; next = p.1 }) (λ _. refl)

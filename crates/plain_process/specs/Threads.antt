-- Words on a thread and on the threads of a process: a call's answer, waiting and waking, the end of a
-- thread, a new thread.
-- Source: `man 2 futex` (FUTEX_WAIT, FUTEX_WAKE), `man 2 clone`, `man 2 set_tid_address` (the word that a
-- thread's end clears).
--     after_call thread value           it has the answer, and goes on after the call
--     waiting user t address            it waits on the word, after those that wait already
--     awake user t                      it waits no more, and its call answers 0
--     wake n address user               the first n threads that wait on the word are awake, or all of them
--     after_thread_end user t           it is gone; the word that its end clears is 0, and the first that waits there is awake
--     new_thread ..                     the thread that a clone makes of its caller
--     with_new_thread ..                with it, where the caller's call has its answer
--     with_called_thread user t new q   with it, where the caller still stands at the call q
--     child_of user t new q             the part of the child that the call q makes of a process whose thread t stands there
use Rattle.std.specs.Prelude.{◌==◌, ℕ, zero, suc, ◌+◌, Bool, not, List, [], ◌∷◌, ◌++◌, filter, find, Option, Some, None, unwrap_or, if◌then◌else◌}
use Rattle.std.specs.FinMap as map
use Rattle.elf32.specs.OfViews.Numbers.{Address, ThreadNumber, Flags}
use Rattle.call_table.specs.OfSysAbi.declared.flags.TheConstants.{CLONE_CHILD_CLEARTID, CLONE_CHILD_SETTID, CLONE_SETTLS}
use Rattle.call_table.specs.declared.request.Request.{Request}
use Rattle.call_table.specs.declared.request.Request.TheVariants.{Clone}
use Rattle.plain_process.specs.declared.regs.Regs.{Regs}
use Rattle.plain_process.specs.declared.user_part.UserPart.{UserPart}
use Rattle.plain_process.specs.declared.user_part.ThreadPart.{ThreadPart}
use Rattle.plain_process.specs.declared.user_part.Waiter.{Waiter}
use Rattle.plain_process.specs.Memory.{Memory, store, low_bytes, with_bytes}
use Rattle.plain_process.specs.Registers.{A0, SP, TP, with_reg, at_pc, next_pc}
use Rattle.plain_process.specs.Steps.{with_regs, with_thread}
use Rattle.call_table.specs.OfSysAbi.Flags.{has_flag}

abbrev pub after_call : ThreadPart → ℕ → ThreadPart
after_call thread value = with_regs thread (at_pc (with_reg thread.regs A0 value) (next_pc thread.regs))

-- waiting and waking

abbrev pub with_waiters : UserPart → List Waiter → UserPart
with_waiters user waiters = record user { waiters = waiters }

abbrev pub without_waiter : ThreadNumber → List Waiter → List Waiter
without_waiter t waiters = filter (λ waiter. not (waiter.tid == t)) waiters

abbrev pub waiting : UserPart → ThreadNumber → Address → UserPart
waiting user t address = with_waiters user (user.waiters ++ record { tid = t; address = address } ∷ [])

abbrev pub awake_by : UserPart → ThreadNumber → Option ThreadPart → UserPart
awake_by user t None = user
awake_by user t (Some thread) = with_thread user t (after_call thread 0) user.memory

unfoldable pub awake : UserPart → ThreadNumber → UserPart
awake user t = awake_by (with_waiters user (without_waiter t user.waiters)) t (map.get user.threads t)

abbrev pub first_waiter : Address → List Waiter → Option Waiter
first_waiter address waiters = find (λ waiter. waiter.address == address) waiters

pub record Woken : Type 0 where
  pub user : UserPart
  pub count : ℕ

abbrev pub woken_by : Woken → Option Waiter → Woken
woken_by woken None = woken
woken_by woken (Some waiter) = record { user = awake woken.user waiter.tid; count = woken.count + 1 }

unfoldable pub wake_one : Address → Woken → Woken
wake_one address woken = woken_by woken (first_waiter address woken.user.waiters)

unfoldable pub wake : ℕ → Address → UserPart → Woken
wake zero address user = record { user = user; count = 0 }
wake (suc n) address user = wake_one address (wake n address user)

-- the end of a thread

abbrev pub without_thread : UserPart → ThreadNumber → UserPart
without_thread user t =
    record user { threads = map.remove user.threads t; waiters = without_waiter t user.waiters }

-- a word that can't be written stays
abbrev pub with_cleared : UserPart → Address → UserPart
with_cleared user address = record user { memory = unwrap_or (store user.memory address 4 0) user.memory }

abbrev pub after_clearing : UserPart → Address → UserPart
after_clearing user address = if address == 0 then user else (wake 1 address (with_cleared user address)).user

abbrev pub thread_end_by : UserPart → ThreadNumber → Option ThreadPart → UserPart
thread_end_by user t None = user
thread_end_by user t (Some thread) = after_clearing (without_thread user t) thread.clear_tid

unfoldable pub after_thread_end : UserPart → ThreadNumber → UserPart
after_thread_end user t = thread_end_by user t (map.get user.threads t)

-- a new thread: the caller's registers after the call, but a0 is 0, the stack and the thread pointer are
-- those that the call names; the caller's mask

abbrev pub with_reg_if : Bool → Regs → ℕ → ℕ → Regs
with_reg_if wanted regs i value = if wanted then with_reg regs i value else regs

abbrev pub new_regs : Regs → Flags → Address → Address → Regs
new_regs regs flags stack tls =
    with_reg
    (with_reg_if (has_flag flags CLONE_SETTLS) (with_reg_if (not (stack == 0)) regs SP stack) TP tls)
    A0 0

abbrev pub new_thread : ThreadPart → Flags → Address → Address → Address → ThreadPart
new_thread caller flags stack tls child_tid = record {
  regs = new_regs caller.regs flags stack tls;
  mask = caller.mask;
  clear_tid = if has_flag flags CLONE_CHILD_CLEARTID then child_tid else 0;
  contexts = [];
}

abbrev pub with_new_thread_by : UserPart → ThreadNumber → Flags → Address → Address → Address
    → Option ThreadPart → UserPart
with_new_thread_by user new flags stack tls child_tid None = user
with_new_thread_by user new flags stack tls child_tid (Some caller) =
    with_thread user new (new_thread caller flags stack tls child_tid) user.memory

unfoldable pub with_new_thread : UserPart → ThreadNumber → ThreadNumber → Flags → Address → Address
    → Address → UserPart
with_new_thread user t new flags stack tls child_tid =
    with_new_thread_by user new flags stack tls child_tid (map.get user.threads t)

-- the same, where the caller still stands at the call
abbrev pub with_called_thread_by : UserPart → ThreadNumber → Flags → Address → Address → Address
    → Option ThreadPart → UserPart
with_called_thread_by user new flags stack tls child_tid None = user
with_called_thread_by user new flags stack tls child_tid (Some caller) =
    with_thread user new (new_thread (after_call caller 0) flags stack tls child_tid) user.memory

unfoldable pub with_called_thread : UserPart → ThreadNumber → ThreadNumber → Request → UserPart
with_called_thread user t new (Clone flags stack parent_tid tls child_tid) =
    with_called_thread_by user new flags stack tls child_tid (map.get user.threads t)
with_called_thread user t new _ = user

-- a fork's child: its one thread goes on as its caller would, but with the answer 0, with the caller's mask
-- and contexts; no thread waits; its number stands in its memory where the flags ask for that
abbrev pub child_thread : ThreadPart → Flags → Address → Address → Address → ThreadPart
child_thread caller flags stack tls child_tid = record {
  regs = new_regs (after_call caller 0).regs flags stack tls;
  mask = caller.mask;
  clear_tid = if has_flag flags CLONE_CHILD_CLEARTID then child_tid else 0;
  contexts = caller.contexts;
}

abbrev pub child_memory : Memory → Flags → Address → ThreadNumber → Memory
child_memory memory flags child_tid new =
    if has_flag flags CLONE_CHILD_SETTID then with_bytes memory child_tid (low_bytes 4 new) else memory

abbrev pub child_by : UserPart → ThreadNumber → Flags → Address → Address → Address → Option ThreadPart
    → UserPart
child_by user new flags stack tls child_tid None = user
child_by user new flags stack tls child_tid (Some caller) = record user {
  memory = child_memory user.memory flags child_tid new;
  threads = map.insert map.empty new (child_thread caller flags stack tls child_tid);
  waiters = [];
}

unfoldable pub child_of : UserPart → ThreadNumber → ThreadNumber → Request → UserPart
child_of user t new (Clone flags stack parent_tid tls child_tid) =
    child_by user new flags stack tls child_tid (map.get user.threads t)
child_of user t new _ = user

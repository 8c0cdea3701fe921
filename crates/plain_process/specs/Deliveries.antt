-- What the delivery of a signal to a thread does to its process's part.
-- Source: `man 7 signal`, `man 2 sigaction`, `man 2 sigreturn`; that contexts are kept in the process, at
-- most 64 for a thread, and that the process ends with the signal's number as its status are this project's
-- own rules.
--     deliver user t s is_unready      what a signal comes to, where t waits on a word or stands at a call that isn't ready, or doesn't
--     delivered_told                   the same without the part that it leaves
use Rattle.std.specs.Prelude.{◌==◌, ◌&&◌, ◌||◌, ℕ, ◌-◌, ◌*◌, ◌/◌, Bool, true, false, nat_lt, bit_or, [], ◌∷◌, ◌++◌, length, slice_get, Option, Some, None, unwrap_or, if◌then◌else◌}
use Rattle.std.specs.FinMap as map
use Rattle.elf32.specs.OfViews.Numbers.{ThreadNumber, SignalNumber, Flags}
use Rattle.elf32.specs.OfViews.Limits.{CONTEXT_LIMIT}
use Rattle.call_table.specs.OfSysAbi.Signals.{has_signal, with_signal}
use Rattle.call_table.specs.declared.delivery.Delivered.{Delivered}
use Rattle.call_table.specs.declared.delivery.Delivered.TheVariants as came
use Rattle.call_table.specs.OfSysAbi.declared.signals.TheConstants.{SIGKILL, SIGSEGV, SIGCHLD, SIGURG, SIGWINCH}
use Rattle.call_table.specs.OfSysAbi.declared.flags.TheConstants.{SA_NODEFER, SA_RESTART}
use Rattle.call_table.specs.OfSysAbi.declared.errors.TheConstants.{EINTR}
use Rattle.plain_process.specs.declared.regs.Regs.{Regs}
use Rattle.plain_process.specs.declared.user_part.UserPart.{UserPart}
use Rattle.plain_process.specs.declared.user_part.ThreadPart.{ThreadPart}
use Rattle.plain_process.specs.declared.user_part.SignalAction.{SignalAction}
use Rattle.plain_process.specs.Registers.{RA, SP, A0, A1, A2, reg, with_reg, at_pc, next_pc}
use Rattle.plain_process.specs.Steps.{UserStep, Trapped, user_step, with_thread}
use Rattle.plain_process.specs.Threads.{with_waiters, without_waiter}
use Rattle.plain_process.specs.Replies.{word_of, error}
use Rattle.plain_process.specs.Start.{default_action}
use Rattle.call_table.specs.OfSysAbi.Flags.{has_flag}

pub data Delivery : Type 0 where
  Enters : UserPart → Delivery  -- the handler begins
  Ignores : Delivery
  Kills : ℕ → Delivery  -- the process ends with this status

-- what the process does on a signal
abbrev pub action_on : UserPart → SignalNumber → SignalAction
action_on user s = unwrap_or (slice_get user.actions (s - 1)) default_action

-- handler 1 ignores it, and so does the default of the signals that tell of children, urgent data and windows
abbrev pub is_ignored : SignalAction → SignalNumber → Bool
is_ignored action s =
    (action.handler == 1)
    || ((action.handler == 0) && ((s == SIGCHLD) || (s == SIGURG) || (s == SIGWINCH)))

-- a call that the handler interrupts answers EINTR, unless it is to begin again
abbrev pub interrupted : Bool → Flags → Regs → Regs
interrupted is_unready flags regs =
    if is_unready && not_restarted flags then
    at_pc (with_reg regs A0 (word_of (error EINTR))) (next_pc regs)
    else regs
  where
    not_restarted : ℕ → Bool
    not_restarted flags = if has_flag flags SA_RESTART then false else true

-- the handler begins with the signal in a0, on a stack that is a multiple of 16, and returns to the page with
-- the return code
abbrev pub RETURN_ADDRESS : ℕ
RETURN_ADDRESS = 0x80000000

abbrev pub handler_regs : Regs → SignalNumber → ℕ → Regs
handler_regs regs s handler =
    let aligned = with_reg regs SP (16 * (reg regs SP / 16)) in
    at_pc (with_reg (with_reg (with_reg (with_reg aligned RA RETURN_ADDRESS) A0 s) A1 0) A2 0) handler

abbrev pub handler_mask : ℕ → SignalAction → SignalNumber → ℕ
handler_mask mask action s =
    let blocked = bit_or mask action.mask in
    if has_flag action.flags SA_NODEFER then blocked else with_signal blocked s

abbrev pub entered : ThreadPart → SignalAction → SignalNumber → Bool → ThreadPart
entered thread action s is_unready = record {
  regs = handler_regs thread.regs s action.handler;
  mask = handler_mask thread.mask action s;
  clear_tid = thread.clear_tid;
  contexts =
      thread.contexts
      ++ record { regs = interrupted is_unready action.flags thread.regs; mask = thread.mask } ∷ [];
}

-- it waits no more
abbrev pub with_entered : UserPart → ThreadNumber → ThreadPart → SignalAction → SignalNumber → Bool → UserPart
with_entered user t thread action s is_unready =
    with_waiters (with_thread user t (entered thread action s is_unready) user.memory)
    (without_waiter t user.waiters)

abbrev pub handled : UserPart → ThreadNumber → ThreadPart → SignalAction → SignalNumber → Bool → Delivery
handled user t thread action s is_unready =
    if action.handler == 0 then Kills s else
    if nat_lt (length thread.contexts) CONTEXT_LIMIT then
    Enters (with_entered user t thread action s is_unready)
    else Kills SIGSEGV

-- a trap can't be put off: where its signal is masked or ignored it ends the process
abbrev pub delivery : UserPart → ThreadNumber → ThreadPart → SignalAction → SignalNumber → Bool → Bool
    → Delivery
delivery user t thread action s is_trap is_unready =
    if (s == SIGKILL) || (is_trap && (has_signal thread.mask s || is_ignored action s)) then Kills s else
    if is_ignored action s then Ignores else handled user t thread action s is_unready

abbrev pub traps_with : UserStep → SignalNumber → Bool
traps_with (Trapped trap) s = trap == s
traps_with _ s = false

abbrev pub deliver_to : UserPart → ThreadNumber → SignalNumber → Bool → Option ThreadPart → Delivery
deliver_to user t s is_unready None = Ignores
deliver_to user t s is_unready (Some thread) =
    delivery user t thread (action_on user s) s (traps_with (user_step user t) s) is_unready

unfoldable pub deliver : UserPart → ThreadNumber → SignalNumber → Bool → Delivery
deliver user t s is_unready = deliver_to user t s is_unready (map.get user.threads t)

-- what the delivery came to
abbrev pub delivered_told : Delivery → Delivered
delivered_told (Enters user) = came.Entered
delivered_told Ignores = came.Ignored
delivered_told (Kills status) = came.Kills status

-- rt_sigaction(s, action, old_action, size), rt_sigprocmask(how, set, old_set, size), rt_sigreturn()
-- (`man 2 sigaction`, `man 2 sigprocmask`, `man 2 sigreturn`). An action in memory is its handler, its flags
-- (4 bytes each) and its mask (8 bytes), a set 8 bytes, of which the first 4 are kept. The signals SIGKILL
-- and SIGSTOP, and those above 31, are dropped from masks.
use Rattle.std.specs.Prelude.{◌==◌, ◌&&◌, ◌||◌, ℕ, ◌-◌, nat_le, bit_or, Bool, not, List, ◌++◌, length, take, drop, slice_get, slice_set, Option, if◌then◌else◌}
use Rattle.elf32.specs.OfViews.Numbers.{Address, ThreadNumber, SignalNumber, Byte}
use Rattle.call_table.specs.OfSysAbi.Signals.{is_signal, blockable, without_signals}
use Rattle.call_table.specs.OfSysAbi.declared.signals.TheConstants.{SIGKILL, SIGSTOP}
use Rattle.call_table.specs.OfSysAbi.declared.errors.TheConstants.{EINVAL}
use Rattle.plain_process.specs.declared.user_part.UserPart.{UserPart}
use Rattle.plain_process.specs.declared.user_part.ThreadPart.{ThreadPart}
use Rattle.plain_process.specs.declared.user_part.SignalAction.{SignalAction}
use Rattle.plain_process.specs.declared.user_part.Context.{Context}
use Rattle.plain_process.specs.Memory.{little_endian, low_bytes}
use Rattle.plain_process.specs.Attempts.{Try, Gives, need, found, ◌>>=◌, ◌>>◌}
use Rattle.plain_process.specs.Steps.{with_thread}
use Rattle.plain_process.specs.Deliveries.{action_on}
use Rattle.plain_process.specs.Rows.Locals.{Local, Stays, local_reply_with}

-- the word at a place of the bytes that a call reads
abbrev pub word_in : List Byte → ℕ → ℕ
word_in given place = little_endian (take 4 (drop place given))

abbrev pub is_uncatchable : SignalNumber → Bool
is_uncatchable s = (s == SIGKILL) || (s == SIGSTOP)

abbrev pub action_in : List Byte → SignalAction
action_in given =
    record { handler = word_in given 0; flags = word_in given 4; mask = blockable (word_in given 8) }

abbrev pub action_bytes : SignalAction → List Byte
action_bytes action =
    low_bytes 4 action.handler ++ low_bytes 4 action.flags ++ low_bytes 4 action.mask ++ low_bytes 4 0

abbrev pub with_action : UserPart → SignalNumber → SignalAction → UserPart
with_action user s action = record user { actions = slice_set user.actions (s - 1) action }

unfoldable pub sigaction_row : UserPart → List Byte → SignalNumber → Address → ℕ → Try Local
sigaction_row user given s action size = do
  need ((size == 8) && is_signal s && ((action == 0) || not (is_uncatchable s))) EINVAL
  local_reply_with
      (if action == 0 then user else with_action user s (action_in given))
      0 (action_bytes (action_on user s))

-- how: 0 blocks, 1 unblocks, 2 sets
abbrev pub mask_by : ℕ → ℕ → ℕ → ℕ
mask_by how mask set =
    if how == 0 then bit_or mask (blockable set) else
    if how == 1 then without_signals mask (blockable set) else blockable set

abbrev pub with_mask : ThreadPart → ℕ → ThreadPart
with_mask thread mask = record {
  regs = thread.regs;
  mask = mask;
  clear_tid = thread.clear_tid;
  contexts = thread.contexts;
}

unfoldable pub sigprocmask_row : UserPart → ThreadNumber → ThreadPart → List Byte → ℕ → Address → ℕ
    → Try Local
sigprocmask_row user t thread given how set size = do
  need ((size == 8) && nat_le how 2) EINVAL
  local_reply_with
      (if set == 0 then user else
      with_thread user t (with_mask thread (mask_by how thread.mask (word_in given 0))) user.memory)
      0 (low_bytes 4 thread.mask ++ low_bytes 4 0)

abbrev pub last_context : List Context → Option Context
last_context contexts = slice_get contexts (length contexts - 1)

abbrev pub returned : ThreadPart → Context → ThreadPart
returned thread context = record {
  regs = context.regs;
  mask = context.mask;
  clear_tid = thread.clear_tid;
  contexts = take (length thread.contexts - 1) thread.contexts;
}

unfoldable pub sigreturn_row : UserPart → ThreadNumber → ThreadPart → Try Local
sigreturn_row user t thread = do
  context ← found (last_context thread.contexts) EINVAL
  Gives (Stays (with_thread user t (returned thread context) user.memory))

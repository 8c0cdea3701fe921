-- What the next instruction of a thread does to its process's part: the fetch at the program counter, the row
-- of the word there, its effect.
-- Source: unprivileged manual, section 1.6 (exceptions, traps, and interrupts) and chapter 2.
use Rattle.std.specs.Prelude.{◌==◌, ℕ, zero, suc, Bool, Option, Some, None, option_and_then, if◌then◌else◌}
use Rattle.std.specs.List.{list_any}
use Rattle.std.specs.FinMap as map
use Rattle.elf32.specs.OfViews.Numbers.{ThreadNumber}
use Rattle.call_table.specs.declared.request.Request.{Request}
use Rattle.call_table.specs.Requests.{request_of}
use Rattle.plain_process.specs.declared.instruction.Insn.{Insn}
use Rattle.plain_process.specs.declared.regs.Regs.{Regs}
use Rattle.plain_process.specs.declared.user_part.UserPart.{UserPart}
use Rattle.plain_process.specs.declared.user_part.ThreadPart.{ThreadPart}
use Rattle.plain_process.specs.Memory.{Memory, fetch}
use Rattle.plain_process.specs.Instructions.{Effect, Next, Calls, Traps, effect, decoded, ILLEGAL, FAULT}

abbrev pub effect_of_insn : Option Insn → Regs → Memory → Effect
effect_of_insn None regs memory = Traps ILLEGAL
effect_of_insn (Some insn) regs memory = effect insn regs memory

abbrev pub effect_of_word : Option ℕ → Regs → Memory → Effect
effect_of_word None regs memory = Traps FAULT
effect_of_word (Some w) regs memory = effect_of_insn (decoded w) regs memory

-- the effect of the instruction at which these registers stand
unfoldable pub effect_at : Regs → Memory → Effect
effect_at regs memory = effect_of_word (fetch memory regs.pc) regs memory

-- n instructions in a row that only go on
pub record Running : Type 0 where
  pub regs : Regs
  pub memory : Memory

abbrev pub running_after : Effect → Option Running
running_after (Next regs memory) = Some (record { regs = regs; memory = memory })
running_after Calls = None
running_after (Traps s) = None

unfoldable pub instructions : ℕ → Regs → Memory → Option Running
instructions zero regs memory = Some (record { regs = regs; memory = memory })
instructions (suc n) regs memory =
    option_and_then (λ before. running_after (effect_at before.regs before.memory))
    (instructions n regs memory)

-- where a thread of a process stands: its next instruction goes on, asks for a call or traps; it waits on a
-- word; or there is no such thread
pub data UserStep : Type 0 where
  Stepped : UserPart → UserStep
  Asks : Request → UserStep
  Trapped : ℕ → UserStep
  Waits : UserStep
  NoThread : UserStep

abbrev pub waits : UserPart → ThreadNumber → Bool
waits user t = list_any (λ waiter. waiter.tid == t) user.waiters

abbrev pub with_regs : ThreadPart → Regs → ThreadPart
with_regs thread regs = record {
  regs = regs;
  mask = thread.mask;
  clear_tid = thread.clear_tid;
  contexts = thread.contexts;
}

abbrev pub with_thread : UserPart → ThreadNumber → ThreadPart → Memory → UserPart
with_thread user t thread memory = record {
  memory = memory;
  break_start = user.break_start;
  break_end = user.break_end;
  threads = map.insert user.threads t thread;
  actions = user.actions;
  waiters = user.waiters;
}

abbrev pub step_by : UserPart → ThreadNumber → ThreadPart → Effect → UserStep
step_by user t thread (Next regs memory) = Stepped (with_thread user t (with_regs thread regs) memory)
step_by user t thread Calls = Asks (request_of thread.regs.x)
step_by user t thread (Traps s) = Trapped s

abbrev pub step_of : UserPart → ThreadNumber → Option ThreadPart → UserStep
step_of user t None = NoThread
step_of user t (Some thread) =
    if waits user t then Waits else step_by user t thread (effect_at thread.regs user.memory)

unfoldable pub user_step : UserPart → ThreadNumber → UserStep
user_step user t = step_of user t (map.get user.threads t)

abbrev pub stepped : UserStep → Option UserPart
stepped (Stepped user) = Some user
stepped _ = None

-- the part after n steps of a thread in a row
unfoldable pub user_steps : ℕ → UserPart → ThreadNumber → Option UserPart
user_steps zero user t = Some user
user_steps (suc n) user t = option_and_then (λ before. stepped (user_step before t)) (user_steps n user t)

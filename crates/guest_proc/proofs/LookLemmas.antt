-- A look at a thread, over plain variables.
use Rattle.std.proofs.Common.{◌≡◌, ℕ, refl, sym, ap, ◌∙◌, false, if◌then◌else◌}
use Rattle.std.specs.Prelude.{Option, Some, None, option_map}
use Rattle.std.specs.FinMap as map
use Rattle.plain_process.specs.declared.regs.Regs.{Regs}
use Rattle.plain_process.specs.declared.user_part.UserPart.{UserPart}
use Rattle.plain_process.specs.declared.user_part.ThreadPart.{ThreadPart}
use Rattle.plain_process.specs.Instructions.{Effect, Next as ToNext, Calls, Traps}
use Rattle.plain_process.specs.Steps.{Waits, waits, effect_at, step_by, step_of, user_step}
use Rattle.rv_isa.specs.declared.outcome.Outcome.TheVariants.{Next, Memory as NoMemory}
use Rattle.guest_proc.specs.declared.ran.Ran.{Ran}
use Rattle.guest_proc.specs.declared.ran.Ran.TheVariants.{Whole}
use Rattle.guest_proc.specs.Guests.{ran_at}
use Rattle.guest_proc.specs.Looking.{ran_by}
use Rattle.guest_start.specs.Peeking.{IsOutcomeOf}

pub goes : (effect : Effect) (regs : Regs) → IsOutcomeOf Next effect → Whole ≡ ran_by effect regs
goes (ToNext regs' memory) regs is = refl
goes Calls regs is = absurd is
goes (Traps s) regs is = absurd is

pub no_memory : (effect : Effect) → IsOutcomeOf NoMemory effect → ⊥
no_memory (ToNext regs memory) is = is
no_memory Calls is = is
no_memory (Traps s) is = is

by_effect : (user : UserPart) (t : ℕ) (thread : ThreadPart) (effect : Effect) → ran_by effect thread.regs ≡ ran_at (step_by user t thread effect)
by_effect user t thread (ToNext regs memory) = refl
by_effect user t thread Calls = refl
by_effect user t thread (Traps s) = refl

by_found : (user : UserPart) (t : ℕ) (regs : Regs) (found : Option ThreadPart) → option_map (λ thread. thread.regs) found ≡ Some regs → waits user t ≡ false
    → ran_by (effect_at regs user.memory) regs ≡ ran_at (step_of user t found)
by_found user t regs None has idle = cc
by_found user t regs (Some thread) has idle =
    let same : regs ≡ thread.regs = cc in
    ap (λ r. ran_by (effect_at r user.memory) r) same ∙ by_effect user t thread (effect_at thread.regs user.memory)
    ∙ ap (λ b. ran_at (if b then Waits else step_by user t thread (effect_at thread.regs user.memory))) (sym idle)

pub looks : (user : UserPart) (t : ℕ) (regs : Regs) (ran : Ran) → option_map (λ thread. thread.regs) (map.get user.threads t) ≡ Some regs → waits user t ≡ false
    → ran ≡ ran_by (effect_at regs user.memory) regs → ran ≡ ran_at (user_step user t)
unfolding user_step
looks user t regs ran has idle is = is ∙ by_found user t regs (map.get user.threads t) has idle

-- Instructions in a row of a thread's registers are steps of its process in a row.
use Rattle.std.proofs.Common.{◌≡◌, ℕ, zero, suc, refl, sym, ap, ◌∙◌, false}
use Rattle.std.specs.Prelude.{Option, Some, None, option_and_then, unwrap_or}
use Rattle.std.specs.Cmp.{nat_cmp_total}
use Rattle.std.specs.FinMap as map
use Rattle.std.specs.FinMap.{nat_cmp-IsAntisymmetric}
use Rattle.views.proofs.MapLaws.{get_insert_same, insert_insert, insert_same}
use Rattle.plain_process.specs.declared.regs.Regs.{Regs}
use Rattle.plain_process.specs.declared.user_part.UserPart.{UserPart}
use Rattle.plain_process.specs.declared.user_part.ThreadPart.{ThreadPart}
use Rattle.plain_process.specs.Memory.{Memory}
use Rattle.plain_process.specs.Instructions.{Effect, Next, Calls, Traps}
use Rattle.plain_process.specs.Steps.{Running, running_after, effect_at, instructions, waits, with_regs, with_thread, step_by, step_of, user_step, stepped, user_steps}

abbrev pub run_to : UserPart → ℕ → ThreadPart → Running → UserPart
run_to user t thread at = with_thread user t (with_regs thread at.regs) at.memory

-- the step of a thread that doesn't wait, of a part that has run
pub step_at : (user : UserPart) (t : ℕ) (thread : ThreadPart) (at : Running) (effect : Effect) → waits user t ≡ false → effect_at at.regs at.memory ≡ effect
    → user_step (run_to user t thread at) t ≡ step_by (run_to user t thread at) t (with_regs thread at.regs) effect
unfolding user_step
step_at user t thread at effect idle is =
    ap (step_of (run_to user t thread at) t) (get_insert_same nat_cmp_total nat_cmp-IsAntisymmetric user.threads t (with_regs thread at.regs)) ∙ rw (idle, is) refl

again : (user : UserPart) (t : ℕ) (thread : ThreadPart) (at : Running) (regs : Regs) (memory : Memory)
    → with_thread (run_to user t thread at) t (with_regs (with_regs thread at.regs) regs) memory ≡ run_to user t thread (record { regs = regs; memory = memory })
again user t thread at regs memory =
    ap (λ threads. record { memory = memory; break_start = user.break_start; break_end = user.break_end; threads = threads; actions = user.actions; waiters = user.waiters })
    (insert_insert nat_cmp_total nat_cmp-IsAntisymmetric user.threads t (with_regs thread at.regs) (with_regs thread regs))

one_more : (user : UserPart) (t : ℕ) (thread : ThreadPart) (before after : Running) (effect : Effect) → waits user t ≡ false → effect_at before.regs before.memory ≡ effect
    → running_after effect ≡ Some after → stepped (user_step (run_to user t thread before) t) ≡ Some (run_to user t thread after)
one_more user t thread before after (Next regs memory) idle is to =
    ap stepped (step_at user t thread before (Next regs memory) idle is) ∙ ap Some (again user t thread before regs memory)
    ∙ ap (λ o. Some (run_to user t thread (unwrap_or o before))) to
one_more user t thread before after Calls idle is to = cc
one_more user t thread before after (Traps s) idle is to = cc

-- the next one after some instructions in a row
and_one : (n : ℕ) (user : UserPart) (t : ℕ) (thread : ThreadPart) (before : Option Running) (after : Running) → waits user t ≡ false
    → ((b : Running) → before ≡ Some b → user_steps n user t ≡ Some (run_to user t thread b))
    → option_and_then (λ b. running_after (effect_at b.regs b.memory)) before ≡ Some after
    → user_steps (suc n) user t ≡ Some (run_to user t thread after)
unfolding user_steps
and_one n user t thread None after idle so_far to = cc
and_one n user t thread (Some b) after idle so_far to =
    ap (option_and_then (λ u. stepped (user_step u t))) (so_far b refl) ∙ one_more user t thread b after (effect_at b.regs b.memory) idle refl to

pub lift : (n : ℕ) (user : UserPart) (t : ℕ) (thread : ThreadPart) (after : Running) → map.get user.threads t ≡ Some thread → waits user t ≡ false
    → instructions n thread.regs user.memory ≡ Some after → user_steps n user t ≡ Some (run_to user t thread after)
unfolding instructions user_steps
lift zero user t thread after there idle to =
    ap (λ threads. Some (record { memory = user.memory; break_start = user.break_start; break_end = user.break_end; threads = threads; actions = user.actions; waiters = user.waiters }))
    (sym (insert_same nat_cmp_total nat_cmp-IsAntisymmetric user.threads t thread there))
    ∙ ap (λ o. Some (run_to user t thread (unwrap_or o after))) to
lift (suc n) user t thread after there idle to =
    and_one n user t thread (instructions n thread.regs user.memory) after idle (λ b e. lift n user t thread b there idle e) to

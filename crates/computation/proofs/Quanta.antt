-- A quantum of instructions: it has at least one, and ends after 4,096 of them or where the thread stands at a call or a trap.
use Rattle.std.proofs.Common.{◌≡◌, ℕ, zero, suc, ◌≤◌, Bool, true, false, cond, Option, Some, None, inl, inr, refl, sym, ap, subst, ◌∙◌, arith}
use Rattle.std.specs.Prelude.{◌⊎◌, is_some, option_and_then}
use Rattle.std.specs.Cmp.{nat_cmp_total}
use Rattle.std.specs.FinMap as map
use Rattle.views.proofs.MapLaws.{get_insert_same}
use Rattle.guest_proc.specs.Guests.{HasThread, Tells, ran_at}
use Rattle.guest_proc.specs.declared.ran.Ran.{Ran}
use Rattle.guest_proc.specs.declared.ran.Ran.TheVariants.{Whole as RanWhole, Asks as RanAsks, Trapped as RanTrapped, Waits as RanWaits, Memory as RanMemory}
use Rattle.plain_process.specs.declared.user_part.UserPart.{UserPart}
use Rattle.plain_process.specs.declared.user_part.ThreadPart.{ThreadPart}
use Rattle.plain_process.specs.Instructions.{Effect, Next, Calls, Traps}
use Rattle.plain_process.specs.Steps.{UserStep, Stepped, Asks, Trapped, Waits, NoThread, waits, with_regs, with_thread, effect_at, step_by, step_of, stepped, user_step, user_steps}
use Rattle.plain_machine.specs.Records.{stands}

none_run : (user next : UserPart) (t : ℕ) → user_steps 0 user t ≡ Some next → next ≡ user
unfolding user_steps
none_run user next t is = cc

-- where the next instruction goes on a run of none tells of no stop
moved_on : (place : UserStep) (ran : Ran) → ran_at place ≡ RanWhole → Tells ran place → ran ≡ RanWhole
moved_on place RanWhole whole tells = refl
moved_on place (RanAsks q) whole tells = absurd (let at = ap ran_at tells in cc)
moved_on place (RanTrapped s) whole tells = absurd (let at = ap ran_at tells in cc)
moved_on place RanWaits whole tells = absurd (let at = ap ran_at tells in cc)
moved_on place RanMemory whole tells = absurd tells

pub some_run : (user next : UserPart) (t n : ℕ) (ran : Ran) → ran_at (user_step user t) ≡ RanWhole → user_steps n user t ≡ Some next → Tells ran (user_step next t) → (ran ≡ RanWhole → n ≡ 4096) → 1 ≤ n
some_run user next t zero ran whole steps tells count =
    let same = none_run user next t steps in
    let at : Tells ran (user_step user t) = subst (λ (u : UserPart). Tells ran (user_step u t)) same tells in
    let all = count (moved_on (user_step user t) ran whole at) in
    absurd (omega arith)
some_run user next t (suc n) ran whole steps tells count = omega arith

-- a thread that ran doesn't wait
went_on : (user next : UserPart) (t : ℕ) (thread : ThreadPart) (e : Effect) → stepped (step_by user t thread e) ≡ Some next → waits next t ≡ waits user t
went_on user next t thread (Next regs memory) is = let same : with_thread user t (with_regs thread regs) memory ≡ next = cc in ap (λ (u : UserPart). waits u t) (sym same)
went_on user next t thread Calls is = absurd (cc)
went_on user next t thread (Traps s) is = absurd (cc)

went_unless : (user next : UserPart) (t : ℕ) (thread : ThreadPart) (b : Bool) → waits user t ≡ b → stepped (cond b Waits (step_by user t thread (effect_at thread.regs user.memory))) ≡ Some next → waits next t ≡ false
went_unless user next t thread true is goes = absurd (cc)
went_unless user next t thread false is goes = went_on user next t thread (effect_at thread.regs user.memory) goes ∙ is

went_of : (user next : UserPart) (t : ℕ) (found : Option ThreadPart) → stepped (step_of user t found) ≡ Some next → waits next t ≡ false
went_of user next t None goes = absurd (cc)
went_of user next t (Some thread) goes = went_unless user next t thread (waits user t) refl goes

after_step : (user next : UserPart) (t : ℕ) → stepped (user_step user t) ≡ Some next → waits next t ≡ false
unfolding user_step
after_step user next t goes = went_of user next t (map.get user.threads t) goes

last_step : (before : Option UserPart) (next : UserPart) (t : ℕ) → option_and_then (λ user. stepped (user_step user t)) before ≡ Some next → waits next t ≡ false
last_step None next t goes = absurd (cc)
last_step (Some user) next t goes = after_step user next t goes

after_run : (n : ℕ) (user next : UserPart) (t : ℕ) → 1 ≤ n → user_steps n user t ≡ Some next → waits next t ≡ false
unfolding user_steps
after_run zero user next t some goes = absurd (omega arith)
after_run (suc n) user next t some goes = last_step (user_steps n user t) next t goes

-- a thread that ran is there
kept_by : (user next : UserPart) (t : ℕ) (thread : ThreadPart) (e : Effect) → stepped (step_by user t thread e) ≡ Some next → HasThread next t
kept_by user next t thread (Next regs memory) is =
    let same : with_thread user t (with_regs thread regs) memory ≡ next = cc in
    subst (λ (u : UserPart). is_some (map.get u.threads t) ≡ true) same (ap is_some (get_insert_same nat_cmp_total map.nat_cmp-IsAntisymmetric user.threads t (with_regs thread regs)))
kept_by user next t thread Calls is = absurd (cc)
kept_by user next t thread (Traps s) is = absurd (cc)

kept_unless : (user next : UserPart) (t : ℕ) (thread : ThreadPart) (b : Bool) → stepped (cond b Waits (step_by user t thread (effect_at thread.regs user.memory))) ≡ Some next → HasThread next t
kept_unless user next t thread true goes = absurd (cc)
kept_unless user next t thread false goes = kept_by user next t thread (effect_at thread.regs user.memory) goes

kept_of : (user next : UserPart) (t : ℕ) (found : Option ThreadPart) → stepped (step_of user t found) ≡ Some next → HasThread next t
kept_of user next t None goes = absurd (cc)
kept_of user next t (Some thread) goes = kept_unless user next t thread (waits user t) goes

kept_after : (user next : UserPart) (t : ℕ) → stepped (user_step user t) ≡ Some next → HasThread next t
unfolding user_step
kept_after user next t goes = kept_of user next t (map.get user.threads t) goes

kept_last : (before : Option UserPart) (next : UserPart) (t : ℕ) → option_and_then (λ user. stepped (user_step user t)) before ≡ Some next → HasThread next t
kept_last None next t goes = absurd (cc)
kept_last (Some user) next t goes = kept_after user next t goes

pub keeps_thread : (n : ℕ) (user next : UserPart) (t : ℕ) → HasThread user t → user_steps n user t ≡ Some next → HasThread next t
unfolding user_steps
keeps_thread zero user next t there goes = let same : user ≡ next = cc in subst (λ (u : UserPart). is_some (map.get u.threads t) ≡ true) same there
keeps_thread (suc n) user next t there goes = kept_last (user_steps n user t) next t goes

by_effect : (user : UserPart) (t : ℕ) (thread : ThreadPart) (e : Effect) → step_by user t thread e ≡ Waits → ⊥
by_effect user t thread (Next regs memory) is = cc
by_effect user t thread Calls is = cc
by_effect user t thread (Traps s) is = cc

idle_of : (user : UserPart) (t : ℕ) (found : Option ThreadPart) → waits user t ≡ false → step_of user t found ≡ Waits → ⊥
idle_of user t None idle is = cc
idle_of user t (Some thread) idle is =
    by_effect user t thread (effect_at thread.regs user.memory) (sym (ap (λ b. cond b Waits (step_by user t thread (effect_at thread.regs user.memory))) idle) ∙ is)

never_waits : (user : UserPart) (t : ℕ) → waits user t ≡ false → user_step user t ≡ Waits → ⊥
unfolding user_step
never_waits user t idle is = idle_of user t (map.get user.threads t) idle is

pub ends_well : (user next : UserPart) (t n : ℕ) (ran : Ran) → 1 ≤ n → user_steps n user t ≡ Some next → Tells ran (user_step next t) → (ran ≡ RanWhole → n ≡ 4096) → (n ≡ 4096) ⊎ (stands (user_step next t) ≡ true)
ends_well user next t n RanWhole some steps tells count = inl (count refl)
ends_well user next t n (RanAsks q) some steps tells count = inr (ap stands tells)
ends_well user next t n (RanTrapped s) some steps tells count = inr (ap stands tells)
ends_well user next t n RanWaits some steps tells count = absurd (never_waits next t (after_run n user next t some steps) tells)
ends_well user next t n RanMemory some steps tells count = absurd tells

-- where the next instruction goes on the thread stands at no call or trap
pub stands_not : (place : UserStep) → ran_at place ≡ RanWhole → stands place ≡ false
stands_not (Stepped user) whole = refl
stands_not (Asks q) whole = absurd (cc)
stands_not (Trapped s) whole = absurd (cc)
stands_not Waits whole = refl
stands_not NoThread whole = refl

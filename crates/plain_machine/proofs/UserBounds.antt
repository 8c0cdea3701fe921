-- A process's part stays valid, with the same threads, over the steps of its threads; and no more threads wait than there are.
--     keeps_steps, user_steps_keep_user      steps of a thread      trap_is_small      it traps with a signal      waiters_are_few
use Rattle.std.proofs.Common.{◌≡◌, ◌≢◌, ℕ, zero, suc, ◌-◌, ◌<◌, ◌≤◌, Bool, true, false, cond, List, [], ◌∷◌, length, refl, sym, ap, ◌∙◌, arith, ⊎_elim}
use Rattle.std.specs.Prelude.{Option, Some, None, is_some, All, AllPairs}
use Rattle.std.specs.Ordering.{nat_cmp}
use Rattle.std.specs.Cmp.{nat_cmp_total}
use Rattle.std.specs.FinMap as map
use Rattle.std.proofs.lemmas.Bool.{cases_lt}
use Rattle.std.proofs.lemmas.Bool.Decides.{nat_tests}
use Rattle.plain_tables.proofs.OfViews.MapLaws.{get_remove_other, true_false}
use Rattle.plain_tables.specs.OfPlainProcess.declared.user_part.UserPart.{UserPart}
use Rattle.plain_tables.specs.OfPlainProcess.declared.user_part.ThreadPart.{ThreadPart}
use Rattle.plain_tables.specs.OfPlainProcess.declared.user_part.Waiter.{Waiter}
use Rattle.plain_tables.specs.OfPlainProcess.Instructions.{Effect, Next, Calls, Traps}
use Rattle.plain_tables.specs.OfPlainProcess.Deliveries.{traps_with}
use Rattle.plain_tables.specs.OfPlainProcess.Steps.{effect_at, UserStep, Waits, waits, with_regs, step_by, step_of, user_step, stepped, user_steps}
use Rattle.plain_tables.specs.OfPlainProcess.Valid.{IsUser}
use Rattle.plain_machine.specs.Laws.{UserStepsKeepUser, WaitersAreFew}
use Rattle.plain_tables.proofs.OfPlainProcess.Giving.{Giving, gives, nothing, then_}
use Rattle.plain_machine.proofs.EffectBounds.{Keeps, keeps_at}
use Rattle.plain_machine.proofs.UserParts.{Follows, follows_itself, then_follows, memory_of, thread_follows}
use Rattle.plain_machine.proofs.ThreadEnds.{thread_with}

-- steps
step_effect : (user : UserPart) (t : ℕ) (thread : ThreadPart) (done : Effect) → IsUser user → map.get user.threads t ≡ Some thread → Keeps user.memory done → Giving (stepped (step_by user t thread done)) (Follows user)
step_effect user t thread (Next regs memory) is there keeps =
    let after = keeps.each regs memory refl in gives _ (thread_follows user is t thread (with_regs thread regs) memory there (thread_with thread regs (is.threads t thread there) after.regs) after.memory after.pages)
step_effect user t thread Calls is there keeps = nothing
step_effect user t thread (Traps s) is there keeps = nothing

unless_waiting : (b : Bool) (user : UserPart) (next : UserStep) → Giving (stepped next) (Follows user) → Giving (stepped (cond b Waits next)) (Follows user)
unless_waiting true user next holds = nothing
unless_waiting false user next holds = holds

step_thread : (user : UserPart) (t : ℕ) (found : Option ThreadPart) → IsUser user → map.get user.threads t ≡ found → Giving (stepped (step_of user t found)) (Follows user)
step_thread user t None is there = nothing
step_thread user t (Some thread) is there =
    unless_waiting (waits user t) user _ (step_effect user t thread (effect_at thread.regs user.memory) is there (keeps_at thread.regs user.memory (is.threads t thread there).regs (memory_of user is)))

keeps_step : (user : UserPart) (t : ℕ) → IsUser user → Giving (stepped (user_step user t)) (Follows user)
unfolding user_step
keeps_step user t is = step_thread user t (map.get user.threads t) is refl

pub keeps_steps : (n : ℕ) (user : UserPart) (t : ℕ) → IsUser user → Giving (user_steps n user t) (Follows user)
unfolding user_steps
keeps_steps zero user t is = gives user (follows_itself user is)
keeps_steps (suc n) user t is = then_ (user_steps n user t) {f = λ before. stepped (user_step before t)} (λ before reached.
    let first = (keeps_steps n user t is).each before reached in
    record { each = λ after goes. then_follows user before after first ((keeps_step before t first.user).each after goes) })

pub user_steps_keep_user : UserStepsKeepUser
user_steps_keep_user n user after t is goes = ((keeps_steps n user t is).each after goes).user

-- traps
trap_of : (user : UserPart) (t s : ℕ) (thread : ThreadPart) (done : Effect) → Keeps user.memory done → traps_with (step_by user t thread done) s ≡ true → s < 32
trap_of user t s thread (Next regs memory) keeps with_it = true_false (sym with_it)
trap_of user t s thread Calls keeps with_it = true_false (sym with_it)
trap_of user t s thread (Traps trap) keeps with_it =
    let same : trap ≡ s = grind (arith, nat_tests, with_it) in
    let small = keeps.trap trap refl in
    omega arith

trap_unless : (b : Bool) (s : ℕ) (next : UserStep) → (traps_with next s ≡ true → s < 32) → traps_with (cond b Waits next) s ≡ true → s < 32
trap_unless true s next holds with_it = true_false (sym with_it)
trap_unless false s next holds with_it = holds with_it

trap_thread : (user : UserPart) (t s : ℕ) (found : Option ThreadPart) → IsUser user → map.get user.threads t ≡ found → traps_with (step_of user t found) s ≡ true → s < 32
trap_thread user t s None is there with_it = true_false (sym with_it)
trap_thread user t s (Some thread) is there with_it =
    trap_unless (waits user t) s _ (trap_of user t s thread (effect_at thread.regs user.memory) (keeps_at thread.regs user.memory (is.threads t thread there).regs (memory_of user is))) with_it

pub trap_is_small : (user : UserPart) (t s : ℕ) → IsUser user → traps_with (user_step user t) s ≡ true → s < 32
unfolding user_step
trap_is_small user t s is with_it = trap_thread user t s (map.get user.threads t) is refl with_it

-- who waits: distinct threads
some_entry : (threads : map.FinMap nat_cmp ThreadPart) (t : ℕ) → is_some (map.get threads t) ≡ true → 0 < map.len threads
some_entry threads t there = ⊎_elim (λ (some : 0 < map.len threads). some)
    (λ (none : map.len threads ≤ 0).
    let empty : threads ≡ map.empty = map.empty_of_len threads (let zero_len : map.len threads ≡ 0 = omega arith in zero_len) in
    true_false (sym there ∙ ap (λ (m : map.FinMap nat_cmp ThreadPart). is_some (map.get m t)) empty ∙ ap is_some (map.get-empty {X = ThreadPart} nat_cmp t)))
    (cases_lt 0 (map.len threads))

fewer : (threads : map.FinMap nat_cmp ThreadPart) (waiters : List Waiter) → All (λ waiter. is_some (map.get threads waiter.tid) ≡ true) waiters → AllPairs (λ waiter later. waiter.tid ≢ later.tid) waiters
    → length waiters ≤ map.len threads
fewer threads [] there apart = omega arith
fewer threads (waiter ∷ rest) there apart =
    let left = map.remove threads waiter.tid in
    let later = fewer left rest (λ k d inside.
    ap is_some (get_remove_other nat_cmp_total map.nat_cmp-IsAntisymmetric threads waiter.tid _ (λ same. apart 0 (suc k) d (omega arith) (omega arith) (sym same))) ∙ there (suc k) d (omega arith))
    (λ i j d before inside. apart (suc i) (suc j) d (omega arith) (omega arith)) in
    let one : is_some (map.get threads waiter.tid) ≡ true = there 0 waiter (omega arith) in
    let counted : map.len left ≡ map.len threads - 1 =
    map.len-remove nat_cmp_total threads waiter.tid ∙ ap (λ b. cond b (map.len threads - 1) (map.len threads)) one in
    let some : 0 < map.len threads = some_entry threads waiter.tid one in
    omega arith

pub waiters_are_few : WaitersAreFew
waiters_are_few user is = fewer user.threads user.waiters (λ k d inside. (is.waiters k d inside).thread) is.waiters_apart

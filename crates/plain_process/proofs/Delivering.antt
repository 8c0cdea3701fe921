-- A delivery, from what it came to.
--     enters      one that enters the handler      stays, kept      one that doesn't
use Rattle.std.proofs.Common.{◌≡◌, ◌≢◌, ℕ, Bool, true, false, cond, refl, sym, ap, subst, ◌∙◌}
use Rattle.std.specs.Prelude.{◌==◌, ◌&&◌, ◌||◌, Option, Some, nat_lt, length, IfSome}
use Rattle.std.specs.FinMap as map
use Rattle.elf32.specs.OfViews.Limits.{CONTEXT_LIMIT}
use Rattle.call_table.specs.declared.delivery.Delivered.{Delivered}
use Rattle.call_table.specs.declared.delivery.Delivered.TheVariants as came
use Rattle.call_table.specs.OfSysAbi.Signals.{has_signal}
use Rattle.call_table.specs.OfSysAbi.declared.signals.TheConstants.{SIGKILL}
use Rattle.plain_process.specs.declared.user_part.SignalAction.{SignalAction}
use Rattle.plain_process.specs.declared.user_part.ThreadPart.{ThreadPart}
use Rattle.plain_process.specs.declared.user_part.UserPart.{UserPart}
use Rattle.plain_process.specs.Steps.{user_step}
use Rattle.plain_process.specs.Deliveries.{Delivery, Enters, Ignores, Kills, action_on, is_ignored, with_entered, delivery, traps_with, deliver, deliver_to, delivered_told}
use Rattle.plain_process.specs.Delivered.{delivery_told, KeepsUnlessEntered}

-- what the code decides, for each part
abbrev pub Decided : SignalAction → ℕ → ℕ → ℕ → Bool → Delivered → Type 0
Decided action s mask count is_trap told =
    (user : UserPart) (t : ℕ) (thread : ThreadPart) (is_unready : Bool) → thread.mask ≡ mask → length thread.contexts ≡ count
    → delivered_told (delivery user t thread action s is_trap is_unready) ≡ told

back : (d : Delivery) (told : Delivered) (user : UserPart) → delivered_told d ≡ told → told ≢ came.Entered → d ≡ delivery_told told user
back (Enters after) told user is other = absurd (other (sym is))
back Ignores came.Ignored user is other = refl
back Ignores came.Entered user is other = absurd (other refl)
back Ignores (came.Kills status) user is other = cc
back (Kills status) came.Ignored user is other = cc
back (Kills status) came.Entered user is other = absurd (other refl)
back (Kills status) (came.Kills told) user is other = let same : status ≡ told = cc in ap (λ k. Kills k) same

abbrev pub chosen : Bool → Bool → Bool → Bool → ℕ → UserPart → Delivery
chosen ends passes defaults fits s after = cond ends (Kills s) (cond passes Ignores (cond defaults (Kills s) (cond fits (Enters after) (Kills 11))))

entry : (ends passes defaults fits : Bool) (s : ℕ) (after : UserPart) → delivered_told (chosen ends passes defaults fits s after) ≡ came.Entered
    → chosen ends passes defaults fits s after ≡ Enters after
entry true passes defaults fits s after told = cc
entry false true defaults fits s after told = cc
entry false false true fits s after told = cc
entry false false false true s after told = refl
entry false false false false s after told = cc

entry_of : (user : UserPart) (t s : ℕ) (thread : ThreadPart) (action : SignalAction) (is_trap is_unready : Bool)
    → delivered_told (delivery user t thread action s is_trap is_unready) ≡ came.Entered
    → delivery user t thread action s is_trap is_unready ≡ Enters (with_entered user t thread action s is_unready)
entry_of user t s thread action is_trap is_unready told =
    entry ((s == SIGKILL) || (is_trap && (has_signal thread.mask s || is_ignored action s))) (is_ignored action s) (action.handler == 0)
    (nat_lt (length thread.contexts) CONTEXT_LIMIT) s (with_entered user t thread action s is_unready) told

by_parts : (user : UserPart) (t s : ℕ) (thread : ThreadPart) (action : SignalAction) (is_trap is_unready : Bool)
    → Some thread ≡ map.get user.threads t → action ≡ action_on user s → is_trap ≡ traps_with (user_step user t) s
    → deliver user t s is_unready ≡ delivery user t thread action s is_trap is_unready
unfolding deliver
by_parts user t s thread action is_trap is_unready there is_action traps =
    ap (deliver_to user t s is_unready) (sym there) ∙ (λ i. delivery user t thread (sym is_action i) s (sym traps i) is_unready)

pub kept : (user : UserPart) (told : Delivered) → told ≢ came.Entered → KeepsUnlessEntered told user user
kept user came.Entered other = tt
kept user came.Ignored other = refl
kept user (came.Kills status) other = refl

pub stays : (user : UserPart) (t s count : ℕ) (thread : ThreadPart) (action : SignalAction) (is_trap is_unready : Bool) (told : Delivered)
    → Some thread ≡ map.get user.threads t → count ≡ length thread.contexts → action ≡ action_on user s → is_trap ≡ traps_with (user_step user t) s
    → Decided action s thread.mask count is_trap told → told ≢ came.Entered → deliver user t s is_unready ≡ delivery_told told user
stays user t s count thread action is_trap is_unready told there counts is_action traps decided other =
    by_parts user t s thread action is_trap is_unready there is_action traps
    ∙ back (delivery user t thread action s is_trap is_unready) told user (decided user t thread is_unready refl (sym counts)) other

pub enters : (user after : UserPart) (t s count : ℕ) (thread : ThreadPart) (action : SignalAction) (is_trap is_unready : Bool) (told : Delivered)
    → Some thread ≡ map.get user.threads t → count ≡ length thread.contexts → action ≡ action_on user s → is_trap ≡ traps_with (user_step user t) s
    → Decided action s thread.mask count is_trap told → told ≡ came.Entered
    → IfSome (map.get user.threads t) (λ found. after ≡ with_entered user t found action s is_unready) → deliver user t s is_unready ≡ Enters after
enters user after t s count thread action is_trap is_unready told there counts is_action traps decided is_entered entered =
    let is : after ≡ with_entered user t thread action s is_unready =
    subst (λ (o : Option ThreadPart). IfSome o (λ found. after ≡ with_entered user t found action s is_unready)) (sym there) entered in
    by_parts user t s thread action is_trap is_unready there is_action traps
    ∙ entry_of user t s thread action is_trap is_unready (decided user t thread is_unready refl (sym counts) ∙ is_entered)
    ∙ ap (λ (u : UserPart). Enters u) (sym is)

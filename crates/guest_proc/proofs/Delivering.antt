-- The delivery of a signal, over plain variables.
--     foreseen             what a delivery comes to      has_room, enters      a delivery that enters a handler
use Rattle.std.proofs.Common.{◌≡◌, ℕ, ◌<◌, Bool, true, false, length, refl, sym, ap, ◌∙◌, arith}
use Rattle.std.specs.Prelude.{Option, Some, None, option_map, nat_lt, IfSome}
use Rattle.std.specs.FinMap as map
use Rattle.std.proofs.lemmas.Bool.Decides.{nat_tests}
use Rattle.call_table.specs.declared.delivery.Delivered.{Delivered}
use Rattle.call_table.specs.declared.delivery.Delivered.TheVariants as came
use Rattle.plain_process.specs.declared.user_part.SignalAction.{SignalAction}
use Rattle.plain_process.specs.declared.user_part.ThreadPart.{ThreadPart}
use Rattle.plain_process.specs.declared.user_part.UserPart.{UserPart}
use Rattle.plain_process.specs.Steps.{user_step}
use Rattle.views.specs.Limits.{CONTEXT_LIMIT}
use Rattle.plain_process.specs.Deliveries.{Delivery, Enters, action_on, with_entered, delivery, traps_with, deliver_to, deliver, delivered_told}
use Rattle.guest_proc.specs.Guests.{part_after}
use Rattle.thread_group.specs.Groups.{entered_in}
use Rattle.plain_process.proofs.Delivering.{chosen}

-- what a delivery comes to
foreseen_by : (user : UserPart) (t s count mask : ℕ) (action : SignalAction) (is_trap is_unready : Bool) (result : Delivered) (found : Option ThreadPart)
    → option_map (λ thread. thread.mask) found ≡ Some mask → option_map (λ thread. length thread.contexts) found ≡ Some count
    → action ≡ action_on user s → is_trap ≡ traps_with (user_step user t) s
    → ((u : UserPart) (n : ℕ) (thread : ThreadPart) (b : Bool) → thread.mask ≡ mask → length thread.contexts ≡ count → delivered_told (delivery u n thread action s is_trap b) ≡ result)
    → delivered_told (deliver_to user t s is_unready found) ≡ result
foreseen_by user t s count mask action is_trap is_unready result None has_mask has_count is_action traps told = cc
foreseen_by user t s count mask action is_trap is_unready result (Some thread) has_mask has_count is_action traps told =
    let same_mask : thread.mask ≡ mask = cc in
    let same_count : length thread.contexts ≡ count = cc in
    (λ i. delivered_told (delivery user t thread (sym is_action i) s (sym traps i) is_unready)) ∙ told user t thread is_unready same_mask same_count

pub foreseen : (user : UserPart) (t s count mask : ℕ) (action : SignalAction) (is_trap is_unready : Bool) (result : Delivered)
    → option_map (λ thread. thread.mask) (map.get user.threads t) ≡ Some mask → option_map (λ thread. length thread.contexts) (map.get user.threads t) ≡ Some count
    → action ≡ action_on user s → is_trap ≡ traps_with (user_step user t) s
    → ((u : UserPart) (n : ℕ) (thread : ThreadPart) (b : Bool) → thread.mask ≡ mask → length thread.contexts ≡ count → delivered_told (delivery u n thread action s is_trap b) ≡ result)
    → delivered_told (deliver user t s is_unready) ≡ result
unfolding deliver
foreseen user t s count mask action is_trap is_unready result has_mask has_count is_action traps told =
    foreseen_by user t s count mask action is_trap is_unready result (map.get user.threads t) has_mask has_count is_action traps told

record Entry (fits : Bool) (after : UserPart) (delivery : Delivery) : Type 0 where
  room : fits ≡ true
  part : delivery ≡ Enters after

entry : (ends passes defaults fits : Bool) (s : ℕ) (after : UserPart) → delivered_told (chosen ends passes defaults fits s after) ≡ came.Entered → Entry fits after (chosen ends passes defaults fits s after)
entry true passes defaults fits s after told = cc
entry false true defaults fits s after told = cc
entry false false true fits s after told = cc
entry false false false true s after told = record { room = refl; part = refl }
entry false false false false s after told = cc

entry_of : (user : UserPart) (t s : ℕ) (thread : ThreadPart) (is_unready : Bool)
    → delivered_told (delivery user t thread (action_on user s) s (traps_with (user_step user t) s) is_unready) ≡ came.Entered
    → Entry (nat_lt (length thread.contexts) CONTEXT_LIMIT) (with_entered user t thread (action_on user s) s is_unready)
    (delivery user t thread (action_on user s) s (traps_with (user_step user t) s) is_unready)
entry_of user t s thread is_unready told = entry _ _ _ _ s (with_entered user t thread (action_on user s) s is_unready) told

room_by : (user : UserPart) (t s : ℕ) (is_unready : Bool) (found : Option ThreadPart) → delivered_told (deliver_to user t s is_unready found) ≡ came.Entered
    → IfSome found (λ thread. length thread.contexts < CONTEXT_LIMIT)
room_by user t s is_unready None told = tt
room_by user t s is_unready (Some thread) told =
    let fits : nat_lt (length thread.contexts) CONTEXT_LIMIT ≡ true = (entry_of user t s thread is_unready told).room in
    grind (arith, nat_tests, fits)

pub has_room : (user : UserPart) (t s : ℕ) (is_unready : Bool) → delivered_told (deliver user t s is_unready) ≡ came.Entered
    → IfSome (map.get user.threads t) (λ thread. length thread.contexts < CONTEXT_LIMIT)
unfolding deliver
has_room user t s is_unready told = room_by user t s is_unready (map.get user.threads t) told

enters_by : (user : UserPart) (t s : ℕ) (is_unready : Bool) (found : Option ThreadPart) → delivered_told (deliver_to user t s is_unready found) ≡ came.Entered
    → entered_in user t (action_on user s) s is_unready found ≡ part_after user (deliver_to user t s is_unready found)
enters_by user t s is_unready None told = cc
enters_by user t s is_unready (Some thread) told = sym (ap (part_after user) (entry_of user t s thread is_unready told).part)

pub enters : (user : UserPart) (t s : ℕ) (is_unready : Bool) → delivered_told (deliver user t s is_unready) ≡ came.Entered
    → entered_in user t (action_on user s) s is_unready (map.get user.threads t) ≡ part_after user (deliver user t s is_unready)
unfolding deliver
enters user t s is_unready told = enters_by user t s is_unready (map.get user.threads t) told

-- A handler that begins keeps a process's part valid, with the same threads.
--     keeps_delivery, delivery_keeps_user
use Rattle.std.proofs.Common.{◌≡◌, ℕ, ◌-◌, ◌*◌, ◌/◌, ◌%◌, ◌^◌, ◌<◌, ◌≤◌, Bool, true, false, cond, ◌&&◌, ◌||◌, List, [], ◌∷◌, length, length-append, refl, subst, arith}
use Rattle.std.specs.Prelude.{◌==◌, nat_lt, bit_or, Option, Some, None, All, slice_get, unwrap_or}
use Rattle.std.specs.FinMap as map
use Rattle.std.proofs.lemmas.Bool.Decides.{nat_tests}
use Rattle.std.proofs.lemmas.Nat.{or_lt}
use Rattle.std.proofs.lemmas.Option.{slice_get_within, get_or_from_slice_get}
use Rattle.std.proofs.lemmas.List.Elements.{All-push}
use Rattle.plain_tables.specs.OfViews.Limits.{CONTEXT_LIMIT}
use Rattle.plain_tables.proofs.OfViews.MapLaws.{true_false}
use Rattle.plain_tables.specs.OfSysAbi.Signals.{has_signal, bit_of}
use Rattle.plain_tables.specs.OfSysAbi.declared.signals.TheConstants.{SIGKILL, SIGSEGV}
use Rattle.plain_tables.specs.OfSysAbi.declared.flags.TheConstants.{SA_NODEFER}
use Rattle.plain_tables.specs.OfPlainProcess.declared.regs.Regs.{Regs}
use Rattle.plain_tables.specs.OfPlainProcess.declared.user_part.UserPart.{UserPart}
use Rattle.plain_tables.specs.OfPlainProcess.declared.user_part.ThreadPart.{ThreadPart}
use Rattle.plain_tables.specs.OfPlainProcess.declared.user_part.SignalAction.{SignalAction}
use Rattle.plain_tables.specs.OfPlainProcess.declared.user_part.Context.{Context}
use Rattle.plain_tables.specs.OfPlainProcess.Registers.{RA, SP, A0, A1, A2, reg, with_reg, at_pc, next_pc}
use Rattle.plain_tables.specs.OfPlainProcess.Steps.{user_step, with_thread}
use Rattle.plain_tables.specs.OfPlainProcess.Start.{default_action}
use Rattle.plain_tables.specs.OfPlainProcess.Deliveries.{Delivery, Enters, Ignores, Kills, action_on, is_ignored, interrupted, RETURN_ADDRESS, handler_regs, handler_mask, entered, with_entered, handled, traps_with, deliver_to, deliver}
use Rattle.plain_tables.specs.OfPlainProcess.Valid.{IsWord, IsRegs, IsThread, IsAction, IsUser}
use Rattle.plain_machine.specs.Laws.{DeliveryKeepsUser}
use Rattle.plain_machine.proofs.SignalBounds.{bit_small}
use Rattle.plain_machine.proofs.MemoryPages.{kept_pages}
use Rattle.plain_machine.proofs.WordBounds.{either_word}
use Rattle.plain_machine.proofs.EffectBounds.{reg_word, regs_at, regs_with, next_word}
use Rattle.plain_machine.proofs.UserParts.{Follows, then_follows, memory_of, thread_follows, no_waiter_follows}
use Rattle.plain_tables.specs.OfSysAbi.Flags.{has_flag}

-- what the process does on a signal
default_is : IsAction default_action
default_is = record { handler = omega arith; flags = omega arith; mask = omega arith }

action_found : (actions : List SignalAction) (i : ℕ) (found : Option SignalAction) → All IsAction actions → slice_get actions i ≡ found → IsAction (unwrap_or found default_action)
action_found actions i None are is = default_is
action_found actions i (Some action) are is = subst IsAction (get_or_from_slice_get actions i action action is) (are i action (slice_get_within actions i action is))

pub action_is : (user : UserPart) (s : ℕ) → IsUser user → IsAction (action_on user s)
action_is user s is = action_found user.actions (s - 1) (slice_get user.actions (s - 1)) is.handlers refl

-- only a signal has a handler
handled_below : (actions : List SignalAction) (s : ℕ) (found : Option SignalAction) → length actions ≡ 31 → slice_get actions (s - 1) ≡ found → ((unwrap_or found default_action).handler == 0) ≡ false → s ≤ 31
handled_below actions s None count is caught = true_false caught
handled_below actions s (Some action) count is caught = let inside = slice_get_within actions (s - 1) action is in omega arith

-- registers and masks
interrupted_are : (unready : Bool) (flags : ℕ) (regs : Regs) → IsRegs regs → IsRegs (interrupted unready flags regs)
interrupted_are unready flags regs are = chosen _
  where
    chosen : (b : Bool) → IsRegs (cond b (at_pc (with_reg regs A0 ((2 ^ 32 - 4) % 2 ^ 32)) (next_pc regs)) regs)
    chosen true = regs_at _ _ (regs_with regs A0 _ are (omega arith)) (next_word regs)
    chosen false = are

handler_regs_are : (regs : Regs) (s handler : ℕ) → IsRegs regs → IsWord s → IsWord handler → IsRegs (handler_regs regs s handler)
handler_regs_are regs s handler are signal word =
    let stack : IsWord (reg regs SP) = reg_word regs SP are in
    let aligned = regs_with regs SP (16 * (reg regs SP / 16)) are (omega arith) in
    regs_at _ handler (regs_with _ A2 0 (regs_with _ A1 0 (regs_with _ A0 s (regs_with _ RA RETURN_ADDRESS aligned (omega arith)) signal) (omega arith)) (omega arith)) word

handler_mask_is : (mask : ℕ) (action : SignalAction) (s : ℕ) → IsWord mask → IsAction action → IsWord (handler_mask mask action s)
handler_mask_is mask action s word is =
    let blocked : IsWord (bit_or mask action.mask) = or_lt 32 mask action.mask word is.mask in
    let bit = bit_small s in
    either_word (has_flag action.flags SA_NODEFER) _ _ blocked (or_lt 32 (bit_or mask action.mask) (bit_of s) blocked (omega arith))

entered_is : (thread : ThreadPart) (action : SignalAction) (s : ℕ) (unready : Bool) → IsThread thread → IsAction action → IsWord s → length thread.contexts < 64 → IsThread (entered thread action s unready)
entered_is thread action s unready is are signal few =
    let context : Context = record { regs = interrupted unready action.flags thread.regs; mask = thread.mask } in
    record {
      regs = handler_regs_are thread.regs s action.handler is.regs signal are.handler;
      mask = handler_mask_is thread.mask action s is.mask are;
      clear_tid = is.clear_tid;
      count = let more = length-append thread.contexts (context ∷ []) in omega arith;
      contexts = All-push (λ (c : Context). IsRegs c.regs × IsWord c.mask) thread.contexts context is.contexts (interrupted_are unready action.flags thread.regs is.regs, is.mask);
    }

-- what a delivery of s comes to
record Entering (user : UserPart) (s : ℕ) (d : Delivery) : Type 0 where
  pub each : (after : UserPart) → d ≡ Enters after → Follows user after
  pub status : (n : ℕ) → d ≡ Kills n → IsWord s → IsWord n

kills : (user : UserPart) (s status : ℕ) → (IsWord s → IsWord status) → Entering user s (Kills status)
kills user s status fits = record {
  each = λ after is. cc;
  status = λ n is word. let same : status ≡ n = cc in subst IsWord same (fits word);
}

ignores : (user : UserPart) (s : ℕ) → Entering user s Ignores
ignores user s = record { each = λ after is. cc; status = λ n is. cc }

enters : (user : UserPart) (s : ℕ) (after : UserPart) → Follows user after → Entering user s (Enters after)
enters user s after follows = record {
  each = λ other is. let same : after ≡ other = cc in subst (Follows user) same follows;
  status = λ n is. cc;
}

or_else : (user : UserPart) (s : ℕ) (b : Bool) (first second : Delivery) → (b ≡ true → Entering user s first) → (b ≡ false → Entering user s second) → Entering user s (cond b first second)
or_else user s true first second holds fails = holds refl
or_else user s false first second holds fails = fails refl

module _ (user : UserPart) (t s : ℕ) (unready : Bool) (is : IsUser user) where
  handler_begins : (thread : ThreadPart) → map.get user.threads t ≡ Some thread → ((action_on user s).handler == 0) ≡ false → length thread.contexts < 64 → Follows user (with_entered user t thread (action_on user s) s unready)
  handler_begins thread there caught few =
      let below = handled_below user.actions s (slice_get user.actions (s - 1)) is.actions refl caught in
      let signal : IsWord s = omega arith in
      let begun = entered_is thread (action_on user s) s unready (is.threads t thread there) (action_is user s is) signal few in
      let first = thread_follows user is t thread _ user.memory there begun (memory_of user is) (kept_pages user.memory) in
      then_follows user (with_thread user t (entered thread (action_on user s) s unready) user.memory) _ first (no_waiter_follows _ first.user t)

  handling : (thread : ThreadPart) → map.get user.threads t ≡ Some thread → Entering user s (handled user t thread (action_on user s) s unready)
  handling thread there =
      or_else user s ((action_on user s).handler == 0) _ _ (λ default. kills user s s (λ word. word)) (λ caught.
      or_else user s (nat_lt (length thread.contexts) CONTEXT_LIMIT) _ _ (λ few. enters user s _ (handler_begins thread there caught (grind (arith, nat_tests, few)))) (λ full. kills user s SIGSEGV (λ word. omega arith)))

  delivering : (found : Option ThreadPart) → map.get user.threads t ≡ found → Entering user s (deliver_to user t s unready found)
  delivering None there = ignores user s
  delivering (Some thread) there =
      or_else user s ((s == SIGKILL) || (traps_with (user_step user t) s && (has_signal thread.mask s || is_ignored (action_on user s) s))) _ _ (λ last. kills user s s (λ word. word)) (λ goes_on.
      or_else user s (is_ignored (action_on user s) s) _ _ (λ ignored. ignores user s) (λ heard. handling thread there))

  pub keeps_delivery : (after : UserPart) → deliver user t s unready ≡ Enters after → Follows user after
  unfolding deliver
  keeps_delivery = (delivering (map.get user.threads t) refl).each

  -- a status is a word, where the signal is
  pub kills_with : (status : ℕ) → deliver user t s unready ≡ Kills status → IsWord s → IsWord status
  unfolding deliver
  kills_with = (delivering (map.get user.threads t) refl).status

pub delivery_keeps_user : DeliveryKeepsUser
delivery_keeps_user user after t s unready is goes = (keeps_delivery user t s unready is after goes).user

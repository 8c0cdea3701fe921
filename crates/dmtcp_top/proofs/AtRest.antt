-- Where nobody lives or can go on no work is a step.
--     at_rest
use Rattle.std.proofs.Common.{◌≡◌, ℕ, Bool, true, false, cond, not, Option, Some, None, inl, inr, refl, sym, ap, ◌∙◌}
use Rattle.std.specs.Prelude.{◌&&◌, is_some, nat_le, option_and_then}
use Rattle.std.specs.Option.{option_map}
use Rattle.std.specs.FinMap as map
use Rattle.views.proofs.MapLaws.{true_false}
use Rattle.sys_abi.specs.declared.identity.VPid.{VPid}
use Rattle.sys_abi.specs.declared.identity.Tid.{Tid}
use Rattle.sys_abi.specs.declared.record.Record.{Record}
use Rattle.sys_abi.specs.declared.record.Record.TheVariants.{User, Call, Deliver, Arrive, Cut, Drained, Refilled, Complete, Refused, Lapsed}
use Rattle.sys_abi.specs.Signals.{has_signal, without_signals}
use Rattle.plain_machine.specs.declared.plain.Plain.{Plain}
use Rattle.plain_process.specs.declared.user_part.UserPart.{UserPart}
use Rattle.plain_process.specs.declared.user_part.ThreadPart.{ThreadPart}
use Rattle.plain_process.specs.Buffers.{lent}
use Rattle.plain_process.specs.Deliveries.{traps_with}
use Rattle.plain_machine.specs.Kernel.{is_live}
use Rattle.plain_process.specs.Steps.{NoThread, Asks, user_step, user_steps}
use Rattle.plain_machine.specs.Records.{Outcome, QUANTUM, outcome, outcome_of_user, outcome_of_call, outcome_of_ask, outcome_of_signal, outcome_of_pending, deliverable, user_ends, if_ends}
use Rattle.plain_machine.specs.Tests.{ended, full_arrive, is_work, IsStuck}
use Rattle.plain_machine.specs.Valid.{IsValid}
use Rattle.dmtcp_top.specs.OneOrder.{ComesToRest}
use Rattle.drive.proofs.Lives.{somebody_lives}
use Rattle.drive.proofs.Standstill.{users_arrived, pending_arrived}
use Rattle.dmtcp_top.proofs.ArrivedCalls.{arrived_goes}
use Rattle.dmtcp_top.proofs.Determined.{HasAsked, has_asked}

-- once nobody lives no work is a step
dead_part : (g : Plain) (p : VPid) → IsValid g → ended g ≡ true → (found : Option UserPart) → map.get g.users p ≡ found → found ≡ None
dead_part g p valid over None is = refl
dead_part g p valid over (Some user) is =
    let alive : is_live g.kernel p ≡ true = sym (valid.alive p) ∙ ap is_some is in
    true_false (sym over ∙ ap not (somebody_lives g.kernel p alive))

pub nobody_there : (g : Plain) (p : VPid) → IsValid g → ended g ≡ true → map.get g.users p ≡ None
nobody_there g p valid over = dead_part g p valid over (map.get g.users p) refl

no_outcome : {A : Type 0} (o : Outcome) → None ≡ Some o → A
no_outcome o is = absurd (cc)

no_work : {A : Type 0} (g : Plain) (r : Record) (o : Outcome) → IsValid g → ended g ≡ true → is_work r ≡ true → outcome g r ≡ Some o → A
unfolding outcome
no_work g (User p t n) o valid over work goes = no_outcome o (sym (ap (outcome_of_user g p t.0 n) (nobody_there g p valid over)) ∙ goes)
no_work g (Call p t) o valid over work goes = no_outcome o (sym (ap (outcome_of_call g p t.0) (nobody_there g p valid over)) ∙ goes)
no_work g (Deliver p t s) o valid over work goes = no_outcome o (sym (ap (outcome_of_signal g p t.0 s.0) (nobody_there g p valid over)) ∙ goes)
no_work g (Arrive dir n) o valid over work goes = true_false (sym work)
no_work g (Cut generation) o valid over work goes = true_false (sym work)
no_work g (Drained dir n) o valid over work goes = true_false (sym work)
no_work g (Refilled dir n) o valid over work goes = true_false (sym work)
no_work g (Complete generation) o valid over work goes = true_false (sym work)
no_work g (Refused cause) o valid over work goes = true_false (sym work)
no_work g Lapsed o valid over work goes = true_false (sym work)

-- what is a step still is one once all bytes have arrived
if_alike : {A : Type 0} (b : Bool) (x y : Option A) → is_some x ≡ is_some y → is_some (cond b x None) ≡ is_some (cond b y None)
if_alike true x y alike = alike
if_alike false x y alike = refl

user_alike : (g h : Plain) (p : VPid) (t n : ℕ) (found : Option UserPart) → is_some (outcome_of_user g p t n found) ≡ is_some (outcome_of_user h p t n found)
user_alike g h p t n None = refl
user_alike g h p t n (Some user) =
    if_alike (nat_le 1 n && nat_le n QUANTUM) (option_and_then (if_ends g p t n) (user_steps n user t)) (option_and_then (if_ends h p t n) (user_steps n user t)) (by (user_steps n user t))
  where
    by : (after : Option UserPart) → is_some (option_and_then (if_ends g p t n) after) ≡ is_some (option_and_then (if_ends h p t n) after)
    by None = refl
    by (Some after) = if_alike (user_ends n t after) (Some _) (Some _) refl

is_there : {A B : Type 0} (f : A → B) (o : Option A) → is_some (option_map f o) ≡ is_some o
is_there f None = refl
is_there f (Some a) = refl

asked_goes : (g : Plain) (p : VPid) (t : Tid) (found : Option UserPart) → IsValid g → HasAsked found t.0 → is_some (outcome_of_call g p t.0 found) ≡ true → is_some (outcome_of_call (full_arrive g) p t.0 found) ≡ true
asked_goes g p t None valid ask goes = let none : NoThread ≡ Asks ask.q = ask.asks in absurd (cc)
asked_goes g p t (Some user) valid ask goes =
    ap (λ place. is_some (outcome_of_ask (full_arrive g) p t.0 user place)) ask.asks
    ∙ arrived_goes g p t.0 user ask.q (lent user.memory ask.q) valid (sym (ap (λ place. is_some (outcome_of_ask g p t.0 user place)) ask.asks) ∙ goes)

either_alike : (b c d : Bool) (x y z w : Outcome) → c ≡ d → is_some (cond b (Some x) (cond c (Some y) None)) ≡ is_some (cond b (Some z) (cond d (Some w) None))
either_alike true c d x y z w same = refl
either_alike false c d x y z w same = ap (λ e. is_some (cond e (Some y) None)) same ∙ if_alike d (Some y) (Some w) refl

pending_alike : (g : Plain) (p : VPid) (t s : ℕ) (user : UserPart) (found : Option ThreadPart) → is_some (outcome_of_pending (full_arrive g) p t s user found) ≡ is_some (outcome_of_pending g p t s user found)
pending_alike g p t s user None = refl
pending_alike g p t s user (Some thread) =
    either_alike (traps_with (user_step user t) s) (has_signal (deliverable (full_arrive g).kernel p t thread) s) (has_signal (deliverable g.kernel p t thread) s) _ _ _ _
    (ap (λ set. has_signal (without_signals set thread.mask) s) (pending_arrived g p t))

signal_alike : (g : Plain) (p : VPid) (t s : ℕ) (found : Option UserPart) → is_some (outcome_of_signal (full_arrive g) p t s found) ≡ is_some (outcome_of_signal g p t s found)
signal_alike g p t s None = refl
signal_alike g p t s (Some user) = pending_alike g p t s user (map.get user.threads t)

goes_arrived : (g : Plain) (r : Record) (o : Outcome) → IsValid g → is_work r ≡ true → outcome g r ≡ Some o → is_some (outcome (full_arrive g) r) ≡ true
unfolding outcome
goes_arrived g (User p t n) o valid work goes =
    ap (λ users. is_some (outcome_of_user (full_arrive g) p t.0 n (map.get users p))) (users_arrived g) ∙ user_alike (full_arrive g) g p t.0 n (map.get g.users p) ∙ ap is_some goes
goes_arrived g (Call p t) o valid work goes =
    ap (λ users. is_some (outcome_of_call (full_arrive g) p t.0 (map.get users p))) (users_arrived g) ∙ asked_goes g p t (map.get g.users p) valid (has_asked g p t o goes) (ap is_some goes)
goes_arrived g (Deliver p t s) o valid work goes =
    ap (λ users. is_some (outcome_of_signal (full_arrive g) p t.0 s.0 (map.get users p))) (users_arrived g) ∙ signal_alike g p t.0 s.0 (map.get g.users p) ∙ ap is_some goes
goes_arrived g (Arrive dir n) o valid work goes = true_false (sym work)
goes_arrived g (Cut generation) o valid work goes = true_false (sym work)
goes_arrived g (Drained dir n) o valid work goes = true_false (sym work)
goes_arrived g (Refilled dir n) o valid work goes = true_false (sym work)
goes_arrived g (Complete generation) o valid work goes = true_false (sym work)
goes_arrived g (Refused cause) o valid work goes = true_false (sym work)
goes_arrived g Lapsed o valid work goes = true_false (sym work)

stuck_stays : {A : Type 0} (g : Plain) (r : Record) (o : Outcome) → IsValid g → IsStuck g → is_work r ≡ true → outcome g r ≡ Some o → A
stuck_stays g r o valid stuck work goes =
    true_false (sym (goes_arrived g r o valid work goes) ∙ sym (is_there (λ (x : Outcome). x.state) (outcome (full_arrive g) r)) ∙ ap is_some (stuck.still r work))

pub at_rest : {A : Type 0} (g : Plain) (r : Record) (o : Outcome) → IsValid g → ComesToRest g → is_work r ≡ true → outcome g r ≡ Some o → A
at_rest g r o valid (inl over) work goes = no_work g r o valid over work goes
at_rest g r o valid (inr stuck) work goes = stuck_stays g r o valid stuck work goes

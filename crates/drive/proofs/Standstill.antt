-- Where nothing is due in a new round, though somebody lives, nobody can go on: all bytes have arrived, each thread waits, and no signal is to be delivered.
--     stands_still   no record of work is a step, also once all bytes have arrived
--     none_after     where nothing is due after a turn's record a new round has nothing either
use Rattle.std.proofs.Common.{◌≡◌, ℕ, zero, suc, ◌+◌, ◌-◌, ◌^◌, ◌<◌, ◌≤◌, Bool, true, false, cond, not, List, [], ◌∷◌, Option, Some, None, ⊎_elim, refl, sym, ap, ◌∙◌, length, arith, tests}
use Rattle.std.proofs.lemmas.Nat.{and_le_r}
use Rattle.std.proofs.Math.Nat.{eq-or-lt_of_le}
use Rattle.std.specs.Prelude.{◌==◌, ◌&&◌, bit_and, is_some, find, option_and_then, nat_le, nat_lt, map as each}
use Rattle.std.specs.List.{range_with_len, filter_map, cons_option}
use Rattle.std.specs.Option.{option_map, option_or}
use Rattle.std.specs.Cmp.{nat_cmp_total}
use Rattle.std.specs.FinMap as map
use Rattle.views.proofs.MapLaws.{true_false}
use Rattle.views.proofs.MapValues.{EachEntry, at_entry, get-map_values}
use Rattle.sys_abi.proofs.OrderLaws.{vpid_total, vpid_exact, dir_total, dir_exact}
use Rattle.sys_abi.specs.Orders.{vpid_cmp}
use Rattle.sys_abi.specs.declared.identity.VPid.{VPid}
use Rattle.sys_abi.specs.declared.identity.Tid.{Tid}
use Rattle.sys_abi.specs.declared.identity.Dir.{Dir}
use Rattle.sys_abi.specs.declared.record.Record.{Record}
use Rattle.sys_abi.specs.declared.record.Record.TheVariants.{User, Call, Deliver, Arrive, Cut, Drained, Refilled, Complete, Refused, Lapsed}
use Rattle.sys_abi.specs.Signals.{is_signal, has_signal, lowest_signal}
use Rattle.plain_machine.specs.declared.plain.Plain.{Plain}
use Rattle.plain_tables.specs.declared.channel.Direction.{Direction}
use Rattle.plain_process.specs.declared.user_part.UserPart.{UserPart}
use Rattle.plain_process.specs.declared.user_part.ThreadPart.{ThreadPart}
use Rattle.plain_process.specs.Deliveries.{traps_with}
use Rattle.plain_machine.specs.Kernel.{pending}
use Rattle.plain_process.specs.Steps.{UserStep, Stepped, Asks, Trapped, Waits, NoThread, stepped, step_of, user_step, user_steps}
use Rattle.plain_machine.specs.Records.{Outcome, outcome, step, outcome_of_user, outcome_of_call, outcome_of_ask, outcome_of_signal, outcome_of_pending, deliverable, if_ends}
use Rattle.plain_machine.specs.Tests.{ended, is_work, all_arrived, full_arrive, has_life, IsStuck}
use Rattle.plain_machine.specs.Valid.{IsValid}
use Rattle.trace_log.specs.Turns.{Place, InTurn, goes_on_at, goes_on, due_signal, signal_for, turn_with, turn_of, threads_in, first_thread, first_turn, if_missing, coming, round_of, new_round, next_turn, same_turn, after_turn, stands_in}
use Rattle.drive.proofs.Lives.{nobody_lives}

-- no turn follows
or_first : {A : Type 0} (a b : Option A) → option_or a b ≡ None → a ≡ None
or_first None b none = refl
or_first (Some a) b none = absurd (cc)

or_second : {A : Type 0} (a b : Option A) → option_or a b ≡ None → b ≡ None
or_second None b none = none
or_second (Some a) b none = absurd (cc)

none_next : (g : Plain) (here : Place) → next_turn g here ≡ None → new_round g ≡ None
none_next g here none =
    or_second (option_map InTurn (first_turn g here.processes)) (new_round g) (or_second (option_map InTurn (first_thread g here.p here.processes here.threads)) (option_or (option_map InTurn (first_turn g here.processes)) (new_round g)) none)

none_if : (g : Plain) (here place : Place) (b : Bool) → cond b (Some (InTurn place)) (next_turn g here) ≡ None → new_round g ≡ None
none_if g here place true none = absurd (cc)
none_if g here place false none = none_next g here none

none_same : (g : Plain) (here : Place) (has_run : Bool) → same_turn g here has_run ≡ None → new_round g ≡ None
none_same g here has_run none = none_if g here _ (goes_on g here.p here.t (map.get g.users here.p)) none

none_either : (g : Plain) (here : Place) (has_run b : Bool) → cond b (same_turn g here has_run) (next_turn g here) ≡ None → new_round g ≡ None
none_either g here has_run true none = none_same g here has_run none
none_either g here has_run false none = none_next g here none

pub none_after : (g : Plain) (here : Place) (r : Record) → is_work r ≡ true → after_turn g here r ≡ None → new_round g ≡ None
none_after g here (User p t n) work none = none_either g here true (stands_in (map.get g.users here.p) here.t) none
none_after g here (Call p t) work none = none_next g here none
none_after g here (Deliver p t s) work none = none_either g here false (is_some here.signal) none
none_after g here (Arrive dir n) work none = true_false (sym work)
none_after g here (Cut generation) work none = true_false (sym work)
none_after g here (Drained dir n) work none = true_false (sym work)
none_after g here (Refilled dir n) work none = true_false (sym work)
none_after g here (Complete generation) work none = true_false (sym work)
none_after g here (Refused cause) work none = true_false (sym work)
none_after g here Lapsed work none = true_false (sym work)

-- a thread without a turn
record HasNone (g : Plain) (p : VPid) (t : ℕ) : Type 0 where
  pub goes : goes_on g p t (map.get g.users p) ≡ false
  pub signal : due_signal g p t (map.get g.users p) ≡ None

without : (p : VPid) (t : ℕ) (later : List ℕ) (processes : List VPid) (can : Bool) (signal : Option ℕ) → turn_with p t later processes can signal ≡ None → (can ≡ false) × (signal ≡ None)
without p t later processes true None none = absurd (cc)
without p t later processes false None none = (refl, refl)
without p t later processes can (Some s) none = absurd (cc)

has_none : (g : Plain) (p : VPid) (t : ℕ) (later : List ℕ) (processes : List VPid) → turn_of g p t later processes ≡ None → HasNone g p t
has_none g p t later processes none =
    let both = without p t later processes (goes_on g p t (map.get g.users p)) (due_signal g p t (map.get g.users p)) none in
    record { goes = both.0; signal = both.1 }

each_has_none : (g : Plain) (p : VPid) (processes : List VPid) (es : List (ℕ × ThreadPart)) → first_thread g p processes (each (λ e. e.0) es) ≡ None → EachEntry (λ t thread. HasNone g p t) es
unfolding first_thread
each_has_none g p processes [] none = tt
each_has_none g p processes (e ∷ es) none =
    let later = each (λ (x : ℕ × ThreadPart). x.0) es in (
      has_none g p e.0 later processes (or_first (turn_of g p e.0 later processes) (first_thread g p processes later) none),
      each_has_none g p processes es (or_second (turn_of g p e.0 later processes) (first_thread g p processes later) none),
    )

-- a process whose threads have none
abbrev AllHaveNone : Plain → VPid → UserPart → Type 0
AllHaveNone g p user = (t : ℕ) (thread : ThreadPart) → map.get g.users p ≡ Some user → map.get user.threads t ≡ Some thread → HasNone g p t

threads_have_none : (g : Plain) (p : VPid) (processes : List VPid) (user : UserPart) → first_thread g p processes (threads_in (map.get g.users p)) ≡ None → AllHaveNone g p user
threads_have_none g p processes user none t thread here there =
    at_entry nat_cmp_total map.nat_cmp-IsAntisymmetric (λ t thread. HasNone g p t) user.threads t thread
    (each_has_none g p processes (map.entries user.threads) (sym (ap (λ o. first_thread g p processes (threads_in o)) here) ∙ none)) there

each_process : (g : Plain) (es : List (VPid × UserPart)) → first_turn g (each (λ e. e.0) es) ≡ None → EachEntry (AllHaveNone g) es
unfolding first_turn
each_process g [] none = tt
each_process g (e ∷ es) none =
    let later = each (λ (x : VPid × UserPart). x.0) es in (
      threads_have_none g e.0 later e.1 (or_first (first_thread g e.0 later (threads_in (map.get g.users e.0))) (first_turn g later) none),
      each_process g es (or_second (first_thread g e.0 later (threads_in (map.get g.users e.0))) (first_turn g later) none),
    )

-- no signal of an empty set
find_none : (test : ℕ → Bool) (a n : ℕ) → find test (range_with_len a n) ≡ None → (k : ℕ) → a ≤ k → k < a + n → test k ≡ false
find_none test a zero none k above below = absurd (omega arith)
find_none test a (suc n) none k above below = elim (test a) as (λ b. test a ≡ b → cond b (Some a) (find test (range_with_len (a + 1) n)) ≡ None → test k ≡ false) [
  | true ↦ λ is e. absurd (cc)
  | false ↦ λ is e. ⊎_elim
      (λ (same : a ≡ k). ap test (sym same) ∙ is)
      (λ (less : a < k). find_none test (a + 1) n e k (omega arith) (omega arith))
      (eq-or-lt_of_le above)
] refl none

has_no_signal : (set s : ℕ) → lowest_signal set ≡ None → has_signal set s ≡ false
unfolding lowest_signal
has_no_signal set s none = by (is_signal s) refl
  where
    nothing : bit_and set 0 ≡ 0
    nothing = let less = and_le_r set 0 in omega arith

    by : (b : Bool) → is_signal s ≡ b → has_signal set s ≡ false
    by true is = find_none (has_signal set) 1 31 none s (grind (arith, tests)) (grind (arith, tests))
    by false is = ap (λ b. not (bit_and set (cond b (2 ^ (s - 1)) 0) == 0)) is ∙ ap (λ n. not (n == 0)) nothing

-- the arrival of all bytes leaves the user parts and the pending signals
pub users_arrived : (g : Plain) → (full_arrive g).users ≡ g.users
unfolding full_arrive
users_arrived g = refl

pub pending_arrived : (g : Plain) (p : VPid) (t : ℕ) → pending (full_arrive g).kernel p t ≡ pending g.kernel p t
unfolding full_arrive pending
pending_arrived g p t = refl

-- where bytes are missing
all_there : (es : List (Dir × Direction)) → filter_map if_missing es ≡ [] → EachEntry (λ dir direction. nat_lt direction.arrived (length direction.left) ≡ false) es
all_there [] none = tt
all_there (e ∷ es) none = elim (nat_lt e.1.arrived (length e.1.left)) as (λ b. nat_lt e.1.arrived (length e.1.left) ≡ b → cons_option (cond b (Some e.0) None) (filter_map if_missing es) ≡ [] → EachEntry (λ dir direction. nat_lt direction.arrived (length direction.left) ≡ false) (e ∷ es)) [
  | true ↦ λ is nothing. absurd (cc)
  | false ↦ λ is nothing. (is, all_there es nothing)
] refl none

as_it_is : (direction : Direction) → nat_lt direction.arrived (length direction.left) ≡ false → direction.arrived ≤ length direction.left → all_arrived direction ≡ direction
as_it_is direction none most = ap (λ n. let d : Direction = record { left = direction.left; arrived = n; ended = direction.ended; unread = direction.unread } in d) (equal direction.arrived (length direction.left) none most)
  where
    equal : (a b : ℕ) → nat_lt a b ≡ false → a ≤ b → b ≡ a
    equal a b none most = grind (arith, tests)

arrived_by_now : (g : Plain) → IsValid g → coming g ≡ [] → full_arrive g ≡ g
unfolding full_arrive coming
arrived_by_now g valid none =
    ap (λ directions. let moved : Plain = record { kernel = record g.kernel { directions = directions }; users = g.users } in moved)
    (map.same_map dir_total dir_exact _ _ (λ q. get-map_values all_arrived g.kernel.directions q ∙ by q (map.get g.kernel.directions q) refl))
  where
    by : (q : Dir) (found : Option Direction) → map.get g.kernel.directions q ≡ found → option_map all_arrived found ≡ found
    by q None is = refl
    by q (Some direction) is =
        ap (λ d. Some d) (as_it_is direction (at_entry dir_total dir_exact (λ dir d. nat_lt d.arrived (length d.left) ≡ false) g.kernel.directions q direction (all_there (map.entries g.kernel.directions) none) is) (valid.kernel.channels.each q direction is).arrived)

-- somebody has a user part
no_users : (g : Plain) → map.keys g.users ≡ [] → (p : VPid) → map.get g.users p ≡ None
no_users g none p = map.get-entries g.users p ∙ ap (λ es. map.find vpid_cmp p es) (no_entry (map.entries g.users) none)
  where
    no_entry : (es : List (VPid × UserPart)) → each (λ e. e.0) es ≡ [] → es ≡ []
    no_entry [] none = refl
    no_entry (e ∷ es) none = absurd (cc)

somebody_there : {A : Type 0} (g : Plain) → IsValid g → ended g ≡ false → map.keys g.users ≡ [] → A
somebody_there g valid on none = true_false (sym (ap not (nobody_lives g.kernel (λ q. sym (valid.alive q) ∙ ap is_some (no_users g none q)))) ∙ on)

-- what is not due in a new round
record NothingDue (g : Plain) : Type 0 where
  pub coming : coming g ≡ []
  pub turns : first_turn g (map.keys g.users) ≡ None

no_turn : (o : Option Place) → option_map InTurn o ≡ None → o ≡ None
no_turn None none = refl
no_turn (Some place) none = absurd (cc)

nothing_due : (g : Plain) → IsValid g → ended g ≡ false → new_round g ≡ None → NothingDue g
nothing_due g valid on none = by (coming g) (map.keys g.users) refl refl none
  where
    by : (dirs : List Dir) (processes : List VPid) → coming g ≡ dirs → map.keys g.users ≡ processes → round_of g dirs processes ≡ None → NothingDue g
    by dirs [] is there none = somebody_there g valid on there
    by [] (p ∷ processes) is there none = record { coming = is; turns = ap (first_turn g) there ∙ no_turn (first_turn g (p ∷ processes)) none }
    by (dir ∷ dirs) (p ∷ processes) is there none = absurd (cc)

-- what a thread that has no turn can't do
none_stepped : (g : Plain) (p : VPid) (t : ℕ) (place : UserStep) → goes_on_at g p t place ≡ false → stepped place ≡ None
none_stepped g p t (Stepped user) still = true_false still
none_stepped g p t (Asks q) still = refl
none_stepped g p t (Trapped s) still = true_false still
none_stepped g p t Waits still = refl
none_stepped g p t NoThread still = refl

no_more : (n : ℕ) (user : UserPart) (t : ℕ) → stepped (user_step user t) ≡ None → user_steps (suc n) user t ≡ None
unfolding user_steps
no_more zero user t none = none
no_more (suc n) user t none = ap (option_and_then (λ before. stepped (user_step before t))) (no_more n user t none)

no_trap : (g : Plain) (p : VPid) (t s : ℕ) (place : UserStep) → goes_on_at g p t place ≡ false → traps_with place s ≡ false
no_trap g p t s (Stepped user) still = true_false still
no_trap g p t s (Asks q) still = refl
no_trap g p t s (Trapped trap) still = true_false still
no_trap g p t s Waits still = refl
no_trap g p t s NoThread still = refl

none_run : (g : Plain) (p : VPid) (t n : ℕ) (user : UserPart) → stepped (user_step user t) ≡ None → outcome_of_user g p t n (Some user) ≡ None
none_run g p t zero user none = refl
none_run g p t (suc n) user none = by (nat_le 1 (suc n) && nat_le (suc n) 4096)
  where
    by : (b : Bool) → cond b (option_and_then (if_ends g p t (suc n)) (user_steps (suc n) user t)) None ≡ None
    by true = ap (option_and_then (if_ends g p t (suc n))) (no_more n user t none)
    by false = refl

not_there : {A B : Type 0} (f : A → B) (o : Option A) → is_some (option_map f o) ≡ false → o ≡ None
not_there f None none = refl
not_there f (Some a) none = true_false none

none_served : (g : Plain) (p : VPid) (t : Tid) (user : UserPart) (place : UserStep) → is_some (step g (Call p t)) ≡ is_some (option_map (λ (o : Outcome). o.state) (outcome_of_ask g p t.0 user place)) → goes_on_at g p t.0 place ≡ false → outcome_of_ask g p t.0 user place ≡ None
none_served g p t user (Asks q) same still = not_there (λ (o : Outcome). o.state) (outcome_of_ask g p t.0 user (Asks q)) (sym same ∙ still)
none_served g p t user (Stepped after) same still = refl
none_served g p t user (Trapped s) same still = refl
none_served g p t user Waits same still = refl
none_served g p t user NoThread same still = refl

neither : (b c : Bool) (first second : Outcome) → b ≡ false → c ≡ false → cond b (Some first) (cond c (Some second) None) ≡ None
neither true c first second fails lacks = true_false fails
neither false true first second fails lacks = true_false lacks
neither false false first second fails lacks = refl

module _ (g : Plain) (turns : first_turn g (map.keys g.users) ≡ None) where
  thread_has_none : (p : VPid) (user : UserPart) (t : ℕ) (thread : ThreadPart) → map.get g.users p ≡ Some user → map.get user.threads t ≡ Some thread → HasNone g p t
  thread_has_none p user t thread here there = at_entry vpid_total vpid_exact (AllHaveNone g) g.users p user (each_process g (map.entries g.users) turns) here t thread here there

  -- where it stands
  stays : (p : VPid) (user : UserPart) (t : ℕ) → map.get g.users p ≡ Some user → goes_on_at g p t (user_step user t) ≡ false
  unfolding user_step goes_on
  stays p user t here = by (map.get user.threads t) refl
    where
      by : (found : Option ThreadPart) → map.get user.threads t ≡ found → goes_on_at g p t (user_step user t) ≡ false
      by None is = ap (λ o. goes_on_at g p t (step_of user t o)) is
      by (Some thread) is = sym (ap (goes_on g p t) here) ∙ (thread_has_none p user t thread here is).goes

  none_taken : (p : VPid) (user : UserPart) (t s : ℕ) (found : Option ThreadPart) → map.get g.users p ≡ Some user → map.get user.threads t ≡ found → outcome_of_pending g p t s user found ≡ None
  unfolding due_signal
  none_taken p user t s None here is = refl
  none_taken p user t s (Some thread) here is =
      let free : lowest_signal (deliverable g.kernel p t thread) ≡ None = ap (signal_for g p t) (sym is) ∙ sym (ap (due_signal g p t) here) ∙ (thread_has_none p user t thread here is).signal in
      neither (traps_with (user_step user t) s) (has_signal (deliverable g.kernel p t thread) s) _ _
      (no_trap g p t s (user_step user t) (stays p user t here))
      (has_no_signal (deliverable g.kernel p t thread) s free)

  none_by : (p : VPid) (by : Option UserPart → Option Outcome) → by None ≡ None → ((user : UserPart) → map.get g.users p ≡ Some user → by (Some user) ≡ None) → by (map.get g.users p) ≡ None
  none_by p by nobody each = at (map.get g.users p) refl
    where
      at : (found : Option UserPart) → map.get g.users p ≡ found → by found ≡ None
      at None is = nobody
      at (Some user) is = each user is

  no_outcome : (r : Record) → is_work r ≡ true → outcome g r ≡ None
  unfolding outcome
  no_outcome (User p t n) work =
      none_by p (outcome_of_user g p t.0 n) refl (λ user here. none_run g p t.0 n user (none_stepped g p t.0 (user_step user t.0) (stays p user t.0 here)))
  no_outcome (Call p t) work =
      none_by p (outcome_of_call g p t.0) refl (λ user here. none_served g p t user (user_step user t.0) (ap (λ o. is_some (option_map (λ (x : Outcome). x.state) (outcome_of_call g p t.0 o))) here) (stays p user t.0 here))
  no_outcome (Deliver p t s) work =
      none_by p (outcome_of_signal g p t.0 s.0) refl (λ user here. none_taken p user t.0 s.0 (map.get user.threads t.0) here refl)
  no_outcome (Arrive dir n) work = true_false (sym work)
  no_outcome (Cut generation) work = true_false (sym work)
  no_outcome (Drained dir n) work = true_false (sym work)
  no_outcome (Refilled dir n) work = true_false (sym work)
  no_outcome (Complete generation) work = true_false (sym work)
  no_outcome (Refused cause) work = true_false (sym work)
  no_outcome Lapsed work = true_false (sym work)

lives_if_on : (b : Bool) → not b ≡ false → b ≡ true
lives_if_on true on = refl
lives_if_on false on = true_false on

pub stands_still : (g : Plain) → IsValid g → ended g ≡ false → new_round g ≡ None → IsStuck g × (full_arrive g ≡ g)
stands_still g valid on none =
    let due = nothing_due g valid on none in
    let all = arrived_by_now g valid due.coming in (
      record {
        lives = lives_if_on (has_life g.kernel) on;
        still = λ r work. ap (λ h. step h r) all ∙ ap (option_map (λ (o : Outcome). o.state)) (no_outcome g due.turns r work);
      },
      all,
    )

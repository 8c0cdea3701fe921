-- At each place in the rounds one record is due that is a step.
--     one_record      two that are due and are steps are the same
--     has_asked       a call that is served is that of a thread which stands at one
use Rattle.std.proofs.Common.{◌≡◌, ℕ, zero, ◌<◌, ◌≤◌, Bool, true, false, not, Option, Some, None, inl, inr, refl, sym, ap, subst, ◌∙◌, arith, tests}
use Rattle.std.proofs.lemmas.Bool.{cases_order}
use Rattle.std.specs.Prelude.{◌==◌, ◌&&◌, ◌||◌, ◌⊎◌, is_some, nat_le}
use Rattle.std.specs.FinMap as map
use Rattle.views.proofs.MapLaws.{true_false}
use Rattle.sys_abi.specs.declared.identity.VPid.{VPid}
use Rattle.sys_abi.specs.declared.identity.Tid.{Tid}
use Rattle.sys_abi.specs.declared.identity.Dir.{Dir}
use Rattle.sys_abi.specs.declared.identity.Signal.{Signal}
use Rattle.sys_abi.specs.declared.record.Record.{Record}
use Rattle.sys_abi.specs.declared.record.Record.TheVariants.{User, Call, Deliver, Arrive, Cut, Drained, Refilled, Complete, Refused, Lapsed}
use Rattle.call_table.specs.declared.request.Request.{Request}
use Rattle.plain_machine.specs.declared.plain.Plain.{Plain}
use Rattle.plain_process.specs.declared.user_part.UserPart.{UserPart}
use Rattle.plain_process.specs.Deliveries.{traps_with}
use Rattle.plain_machine.specs.Records.{Outcome, QUANTUM, outcome, outcome_of_user, outcome_of_call, outcome_of_ask, stands, user_ends, if_ends}
use Rattle.plain_process.specs.Steps.{UserStep, Stepped, Asks, Trapped, Waits, NoThread, stepped, user_step, user_steps}
use Rattle.plain_process.proofs.Giving.{Giving, gives, nothing, where_, then_}
use Rattle.plain_process.proofs.StepsInRow.{steps_stopped}
use Rattle.trace_log.specs.Turns.{Place, Due, Arrival, InTurn, is_turn_of, traps_in, is_due_signal, is_due_in, is_due_at, is_arrival, is_same_dir, is_all_missing, missing_in}
use Rattle.drive.proofs.HandedOn.{left_true, right_true}

-- the record is of the thread whose turn it is: it runs, its call is served, or this signal is delivered to it
abbrev turn_thread : Place → Tid
turn_thread here = record { 0 = here.t }

data IsTurn (g : Plain) (here : Place) (r : Record) : Type 0 where
  Runs : (n : ℕ) → r ≡ User here.p (turn_thread here) n → here.signal ≡ None → IsTurn g here r
  Calls : r ≡ Call here.p (turn_thread here) → here.signal ≡ None → IsTurn g here r
  Takes : (s : Signal) → r ≡ Deliver here.p (turn_thread here) s → is_due_signal g here s.0 here.signal ≡ true → IsTurn g here r

same_number : (a b : ℕ) → (a == b) ≡ true → a ≡ b
same_number a b is = grind (arith, tests)

abbrev vpid : ℕ → VPid
vpid n = record { 0 = n }

abbrev tid : ℕ → Tid
tid n = record { 0 = n }

abbrev signal : ℕ → Signal
signal n = record { 0 = n }

own_process : (here : Place) (p : VPid) (t : Tid) → is_turn_of here p t ≡ true → p ≡ here.p
own_process here p t is = ap vpid (sym (same_number here.p.0 p.0 (left_true (here.p.0 == p.0) (here.t == t.0) is)))

own_thread : (here : Place) (p : VPid) (t : Tid) → is_turn_of here p t ≡ true → t ≡ turn_thread here
own_thread here p t is = ap tid (sym (same_number here.t t.0 (right_true (here.p.0 == p.0) (here.t == t.0) is)))

no_signal : (o : Option ℕ) → not (is_some o) ≡ true → o ≡ None
no_signal None is = refl
no_signal (Some s) is = true_false (sym is)

is_turn : (g : Plain) (here : Place) (r : Record) → is_due_in g here r ≡ true → IsTurn g here r
is_turn g here (User p t n) due =
    let mine = left_true (is_turn_of here p t) (not here.has_run) (left_true (is_turn_of here p t && not here.has_run) (not (is_some here.signal)) due) in
    Runs n
    (ap (λ q. User q t n) (own_process here p t mine) ∙ ap (λ u. User here.p u n) (own_thread here p t mine))
    (no_signal here.signal (right_true (is_turn_of here p t && not here.has_run) (not (is_some here.signal)) due))
is_turn g here (Call p t) due =
    let mine = left_true (is_turn_of here p t) (not (is_some here.signal)) due in
    Calls
    (ap (λ q. Call q t) (own_process here p t mine) ∙ ap (λ u. Call here.p u) (own_thread here p t mine))
    (no_signal here.signal (right_true (is_turn_of here p t) (not (is_some here.signal)) due))
is_turn g here (Deliver p t s) due =
    let mine = left_true (is_turn_of here p t) (is_due_signal g here s.0 here.signal) due in
    Takes s
    (ap (λ q. Deliver q t s) (own_process here p t mine) ∙ ap (λ u. Deliver here.p u s) (own_thread here p t mine))
    (right_true (is_turn_of here p t) (is_due_signal g here s.0 here.signal) due)
is_turn g here (Arrive dir n) due = true_false (sym due)
is_turn g here (Cut generation) due = true_false (sym due)
is_turn g here (Drained dir n) due = true_false (sym due)
is_turn g here (Refilled dir n) due = true_false (sym due)
is_turn g here (Complete generation) due = true_false (sym due)
is_turn g here (Refused cause) due = true_false (sym due)
is_turn g here Lapsed due = true_false (sym due)

-- where a thread of a process that may be there stands
abbrev pub at_step : Option UserPart → ℕ → UserStep
at_step None t = NoThread
at_step (Some user) t = user_step user t

-- what a quantum needs
record HasRun (found : Option UserPart) (t n : ℕ) : Type 0 where
  pub user : UserPart
  pub after : UserPart
  pub there : found ≡ Some user
  pub some : 1 ≤ n
  pub most : n ≤ 4096
  pub steps : user_steps n user t ≡ Some after
  pub ends : user_ends n t after ≡ true

at_least : (n : ℕ) → nat_le 1 n ≡ true → 1 ≤ n
at_least n is = grind (arith, tests)

at_most : (n : ℕ) → nat_le n 4096 ≡ true → n ≤ 4096
at_most n is = grind (arith, tests)

ran : (g : Plain) (p : VPid) (t n : ℕ) (found : Option UserPart) → Giving (outcome_of_user g p t n found) (λ o. HasRun found t n)
ran g p t n None = nothing
ran g p t n (Some user) = where_ (nat_le 1 n && nat_le n QUANTUM) (λ counted. then_ (user_steps n user t) {f = if_ends g p t n} (λ after goes. where_ (user_ends n t after) (λ ends. gives _ (record {
  user = user;
  after = after;
  there = refl;
  some = at_least n (left_true (nat_le 1 n) (nat_le n 4096) counted);
  most = at_most n (right_true (nat_le 1 n) (nat_le n 4096) counted);
  steps = goes;
  ends = ends;
}))))

has_run : (g : Plain) (p : VPid) (t : Tid) (n : ℕ) (o : Outcome) → outcome g (User p t n) ≡ Some o → HasRun (map.get g.users p) t.0 n
unfolding outcome
has_run g p t n o goes = (ran g p t.0 n (map.get g.users p)).each o goes

-- a call is served where the thread stands at one
pub record HasAsked (found : Option UserPart) (t : ℕ) : Type 0 where
  pub q : Request
  pub asks : at_step found t ≡ Asks q

asked_at : (g : Plain) (p : VPid) (t : ℕ) (user : UserPart) (place : UserStep) → user_step user t ≡ place → Giving (outcome_of_ask g p t user place) (λ o. HasAsked (Some user) t)
asked_at g p t user (Asks q) is = record { each = λ o goes. record { q = q; asks = is } }
asked_at g p t user (Stepped after) is = nothing
asked_at g p t user (Trapped s) is = nothing
asked_at g p t user Waits is = nothing
asked_at g p t user NoThread is = nothing

asked : (g : Plain) (p : VPid) (t : ℕ) (found : Option UserPart) → Giving (outcome_of_call g p t found) (λ o. HasAsked found t)
asked g p t None = nothing
asked g p t (Some user) = asked_at g p t user (user_step user t) refl

pub has_asked : (g : Plain) (p : VPid) (t : Tid) (o : Outcome) → outcome g (Call p t) ≡ Some o → HasAsked (map.get g.users p) t.0
unfolding outcome
has_asked g p t o goes = (asked g p t.0 (map.get g.users p)).each o goes

-- a signal that isn't the due one is that of a trap
trapped_at : (place : UserStep) (s : ℕ) → traps_with place s ≡ true → place ≡ Trapped s
trapped_at (Trapped trap) s is = ap Trapped (same_number trap s is)
trapped_at (Stepped after) s is = true_false (sym is)
trapped_at (Asks q) s is = true_false (sym is)
trapped_at Waits s is = true_false (sym is)
trapped_at NoThread s is = true_false (sym is)

trapped : (found : Option UserPart) (t s : ℕ) → traps_in found t s ≡ true → at_step found t ≡ Trapped s
trapped None t s is = true_false (sym is)
trapped (Some user) t s is = trapped_at (user_step user t) s is

-- a thread that stands at a call or a trap makes no further step
halted : (k n : ℕ) (user before : UserPart) (t : ℕ) → k < n → user_steps k user t ≡ Some before → stands (user_step before t) ≡ true → user_steps n user t ≡ None
halted k n user before t fewer so_far standing = by (user_step before t) refl standing
  where
    by : (place : UserStep) → user_step before t ≡ place → stands place ≡ true → user_steps n user t ≡ None
    by (Asks q) is e = steps_stopped k n user t before fewer so_far (ap stepped is)
    by (Trapped s) is e = steps_stopped k n user t before fewer so_far (ap stepped is)
    by (Stepped after) is e = true_false (sym e)
    by Waits is e = true_false (sym e)
    by NoThread is e = true_false (sym e)

none_some : {A B : Type 0} (o : Option A) (a : A) → o ≡ None → o ≡ Some a → B
none_some o a none some = absurd (cc)

one_found : {A : Type 0} (o : Option A) (a b : A) → o ≡ Some a → o ≡ Some b → a ≡ b
one_found o a b first second = cc

no_steps : (user : UserPart) (t : ℕ) → user_steps zero user t ≡ Some user
unfolding user_steps
no_steps user t = refl

-- who runs doesn't stand at a call or a trap
runs_on : {A : Type 0} (found : Option UserPart) (t n : ℕ) → HasRun found t n → stands (at_step found t) ≡ true → A
runs_on found t n run standing =
    none_some (user_steps n run.user t) run.after
    (halted zero n run.user run.user t (omega (arith, run.some)) (no_steps run.user t) (subst (λ o. stands (at_step o t) ≡ true) run.there standing))
    run.steps

-- a quantum has one length
ends_standing : (n : ℕ) (b : Bool) → n < 4096 → ((n == 4096) || b) ≡ true → b ≡ true
ends_standing n true less is = refl
ends_standing n false less is = grind (arith, tests)

not_longer : {A : Type 0} (found : Option UserPart) (t n m : ℕ) → HasRun found t n → HasRun found t m → n < m → A
not_longer found t n m first second longer =
    let same = one_found found first.user second.user first.there second.there in
    let fewer : n < 4096 = omega (arith, longer, second.most) in
    none_some (user_steps m second.user t) second.after
    (subst (λ (user : UserPart). user_steps m user t ≡ None) same (halted n m first.user first.after t longer first.steps (ends_standing n (stands (user_step first.after t)) fewer first.ends)))
    second.steps

one_length : (found : Option UserPart) (t n m : ℕ) → HasRun found t n → HasRun found t m → n ≡ m
one_length found t n m first second = by (cases_order n m)
  where
    by : (n ≡ m) ⊎ ((n < m) ⊎ (m < n)) → n ≡ m
    by (inl same) = same
    by (inr (inl less)) = not_longer found t n m first second less
    by (inr (inr more)) = not_longer found t m n second first more

one_signal : (g : Plain) (here : Place) (s other : ℕ) (due : Option ℕ) → is_due_signal g here s due ≡ true → is_due_signal g here other due ≡ true → s ≡ other
one_signal g here s other (Some due) first second = sym (same_number due s first) ∙ same_number due other second
one_signal g here s other None first second = one_trap (sym (trapped (map.get g.users here.p) here.t s first) ∙ trapped (map.get g.users here.p) here.t other second)
  where
    one_trap : Trapped s ≡ Trapped other → s ≡ other
    one_trap is = cc

module _ (g : Plain) (here : Place) where
  abbrev found : Option UserPart
  found = map.get g.users here.p

  abbrev Goes : Record → Type 0
  Goes r = (o : Outcome) × (outcome g r ≡ Some o)

  quantum : (x : Record) (n : ℕ) → x ≡ User here.p (turn_thread here) n → Goes x → HasRun found here.t n
  quantum x n is goes = has_run g here.p (turn_thread here) n goes.0 (subst (λ r. outcome g r ≡ Some goes.0) is goes.1)

  call_stands : (x : Record) → x ≡ Call here.p (turn_thread here) → Goes x → HasAsked found here.t
  call_stands x is goes = has_asked g here.p (turn_thread here) goes.0 (subst (λ r. outcome g r ≡ Some goes.0) is goes.1)

  trap_stands : (s : ℕ) → is_due_signal g here s here.signal ≡ true → here.signal ≡ None → at_step found here.t ≡ Trapped s
  trap_stands s due none = trapped found here.t s (subst (λ o. is_due_signal g here s o ≡ true) none due)

  asks_not_traps : {A : Type 0} (s : ℕ) → HasAsked found here.t → at_step found here.t ≡ Trapped s → A
  asks_not_traps s ask traps = let clash : Asks ask.q ≡ Trapped s = sym ask.asks ∙ traps in absurd (cc)

  one_turn : (x y : Record) → IsTurn g here x → IsTurn g here y → Goes x → Goes y → x ≡ y
  one_turn x y (Runs n is none) (Runs m other also) first second =
      is ∙ ap (User here.p (turn_thread here)) (one_length found here.t n m (quantum x n is first) (quantum y m other second)) ∙ sym other
  one_turn x y (Runs n is none) (Calls other also) first second = runs_on found here.t n (quantum x n is first) (ap stands (call_stands y other second).asks)
  one_turn x y (Runs n is none) (Takes s other due) first second = runs_on found here.t n (quantum x n is first) (ap stands (trap_stands s.0 due none))
  one_turn x y (Calls is none) (Runs m other also) first second = runs_on found here.t m (quantum y m other second) (ap stands (call_stands x is first).asks)
  one_turn x y (Calls is none) (Calls other also) first second = is ∙ sym other
  one_turn x y (Calls is none) (Takes s other due) first second = asks_not_traps s.0 (call_stands x is first) (trap_stands s.0 due none)
  one_turn x y (Takes s is due) (Runs m other also) first second = runs_on found here.t m (quantum y m other second) (ap stands (trap_stands s.0 due also))
  one_turn x y (Takes s is due) (Calls other also) first second = asks_not_traps s.0 (call_stands y other second) (trap_stands s.0 due also)
  one_turn x y (Takes s is due) (Takes u other again) first second =
      is ∙ ap (λ n. Deliver here.p (turn_thread here) (signal n)) (one_signal g here s.0 u.0 here.signal due again) ∙ sym other

-- an arrival that is due
same_dir : (a b : Dir) → is_same_dir a b ≡ true → a ≡ b
same_dir a b same =
    let pid = same_number a.conn.pid.0 b.conn.pid.0 (left_true (a.conn.pid.0 == b.conn.pid.0) (a.conn.num == b.conn.num) (left_true ((a.conn.pid.0 == b.conn.pid.0) && (a.conn.num == b.conn.num)) (a.side == b.side) same)) in
    let num = same_number a.conn.num b.conn.num (right_true (a.conn.pid.0 == b.conn.pid.0) (a.conn.num == b.conn.num) (left_true ((a.conn.pid.0 == b.conn.pid.0) && (a.conn.num == b.conn.num)) (a.side == b.side) same)) in
    let side = same_number a.side b.side (right_true ((a.conn.pid.0 == b.conn.pid.0) && (a.conn.num == b.conn.num)) (a.side == b.side) same) in
    ap (λ n. dir n a.conn.num a.side) pid ∙ ap (λ n. dir b.conn.pid.0 n a.side) num ∙ ap (dir b.conn.pid.0 b.conn.num) side
  where
    dir : ℕ → ℕ → ℕ → Dir
    dir pid num side = record { conn = record { pid = record { 0 = pid }; num = num }; side = side }

arrives : (g : Plain) (dir : Dir) (r : Record) → is_arrival g dir r ≡ true → r ≡ Arrive dir (missing_in (map.get g.kernel.directions dir))
arrives g dir (Arrive other n) due =
    ap (λ d. Arrive d n) (same_dir other dir (left_true (is_same_dir other dir) (is_all_missing g dir n) due))
    ∙ ap (Arrive dir) (same_number n (missing_in (map.get g.kernel.directions dir)) (right_true (is_same_dir other dir) (is_all_missing g dir n) due))
arrives g dir (User p t n) due = true_false (sym due)
arrives g dir (Call p t) due = true_false (sym due)
arrives g dir (Deliver p t s) due = true_false (sym due)
arrives g dir (Cut generation) due = true_false (sym due)
arrives g dir (Drained other n) due = true_false (sym due)
arrives g dir (Refilled other n) due = true_false (sym due)
arrives g dir (Complete generation) due = true_false (sym due)
arrives g dir (Refused cause) due = true_false (sym due)
arrives g dir Lapsed due = true_false (sym due)

pub one_record : (g : Plain) (due : Option Due) (x y : Record) (o other : Outcome) → is_due_at g due x ≡ true → is_due_at g due y ≡ true → outcome g x ≡ Some o → outcome g y ≡ Some other → x ≡ y
one_record g None x y o other due also goes goes_too = true_false (sym due)
one_record g (Some (Arrival dir dirs)) x y o other due also goes goes_too = arrives g dir x due ∙ sym (arrives g dir y also)
one_record g (Some (InTurn here)) x y o other due also goes goes_too = one_turn g here x y (is_turn g here x due) (is_turn g here y also) (o, goes) (other, goes_too)

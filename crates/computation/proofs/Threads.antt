-- What a process's own part tells of its threads, in the words of the rounds: which signal is due, and whether a thread can
-- go on.
--     part_of               the part of a guest
--     due_is, due_can       the signal that is delivered first
--     idle_waits, idle_asks, idle_else, goes_is      whether a thread can go on
use Rattle.std.proofs.Common.{◌≡◌, ℕ, Bool, true, false, not, cond, List, [], ◌∷◌, Option, Some, None, refl, sym, ap, ◌∙◌, arith, tests}
use Rattle.std.specs.Prelude.{◌&&◌, length, nat_lt, is_some, find, IfSome}
use Rattle.std.specs.Option.{option_map}
use Rattle.std.specs.List.{range_with_len, filter_map}
use Rattle.std.specs.FinMap as map
use Rattle.views.specs.Maps.{map_values}
use Rattle.views.proofs.MapLaws.{true_false}
use Rattle.views.proofs.MapValues.{get-map_values}
use Rattle.sys_abi.specs.declared.identity.VPid.{VPid}
use Rattle.sys_abi.specs.declared.identity.Tid.{Tid}
use Rattle.sys_abi.specs.declared.identity.Signal.{Signal}
use Rattle.sys_abi.specs.Orders.{vpid_cmp}
use Rattle.sys_abi.specs.declared.record.Record.TheVariants.{Call, Deliver}
use Rattle.call_table.specs.declared.request.Request.{Request}
use Rattle.call_table.specs.Requests.{is_local}
use Rattle.sys_abi.specs.Signals.{has_signal, lowest_signal, without_signals}
use Rattle.plain_process.specs.declared.user_part.UserPart.{UserPart}
use Rattle.plain_process.specs.declared.user_part.ThreadPart.{ThreadPart}
use Rattle.plain_process.specs.Buffers.{lent}
use Rattle.plain_process.specs.Memory.{Memory}
use Rattle.plain_process.specs.Deliveries.{traps_with}
use Rattle.plain_process.specs.Instructions.{Effect, Next, Calls, Traps}
use Rattle.plain_process.specs.Steps.{UserStep, Stepped, Asks, Trapped, Waits, NoThread, waits, effect_at, step_by, step_of, user_step}
use Rattle.plain_process.specs.Local.{local_row}
use Rattle.plain_machine.specs.declared.plain.Plain.{Plain}
use Rattle.plain_machine.specs.Attempts.{Served}
use Rattle.plain_machine.specs.Kernel.{pending}
use Rattle.plain_machine.specs.Serve.{front_of, is_ready, serve}
use Rattle.plain_machine.proofs.EachRow.{ready_by_front}
use Rattle.plain_machine.specs.Records.{Outcome, quiet, with_user, step, outcome, waits_at, is_unready, deliverable, outcome_of_call, outcome_of_ask, outcome_of_lent, outcome_of_serve, outcome_of_signal, outcome_of_pending}
use Rattle.guest_proc.specs.Guests.{GuestPart, ran_at}
use Rattle.guest_proc.specs.declared.ran.Ran.TheVariants.{Asks as RanAsks, Trapped as RanTrapped, Waits as RanWaits}
use Rattle.plain_tables.specs.declared.channel.Direction.{Direction}
use Rattle.sys_abi.specs.declared.identity.Dir.{Dir}
use Rattle.trace_log.specs.Turns.{coming, if_missing, signal_for, due_signal, goes_on, goes_on_at}
use Rattle.computation.specs.Takes.{CanDeliver}

pub part_of : (guests : map.FinMap vpid_cmp GuestPart) (p : VPid) (found : Option GuestPart) → found ≡ map.get guests p
    → map.get (map_values (λ guest. guest.user) guests) p ≡ option_map (λ guest. guest.user) found
part_of guests p found is = get-map_values (λ (guest : GuestPart). guest.user) guests p ∙ ap (option_map (λ (guest : GuestPart). guest.user)) (sym is)

pub no_value : {A : Type 0} (o : Option A) → is_some o ≡ false → o ≡ None
no_value None none = refl
no_value (Some a) none = absurd (cc)

pub not_not : (b : Bool) → b ≡ not (not b)
not_not true = refl
not_not false = refl

-- the signal that is delivered first
pub masked : (g : Plain) (p : VPid) (t set mask : ℕ) (found : Option ThreadPart) → set ≡ pending g.kernel p t
    → option_map (λ (thread : ThreadPart). thread.mask) found ≡ Some mask → lowest_signal (without_signals set mask) ≡ signal_for g p t found
masked g p t set mask None pends is = absurd (cc)
masked g p t set mask (Some thread) pends is =
    let same : thread.mask ≡ mask = cc in
    ap (λ n. lowest_signal (without_signals n mask)) pends ∙ ap (λ n. lowest_signal (without_signals (pending g.kernel p t) n)) (sym same)

pub due_is : (g : Plain) (p : VPid) (t : ℕ) (user : UserPart) → map.get g.users p ≡ Some user
    → due_signal g p t (map.get g.users p) ≡ signal_for g p t (map.get user.threads t)
unfolding due_signal
due_is g p t user there = ap (due_signal g p t) there

pub none_due : (g : Plain) (p : VPid) (t : ℕ) → map.get g.users p ≡ None → None ≡ due_signal g p t (map.get g.users p)
unfolding due_signal
none_due g p t there = sym (ap (due_signal g p t) there)

passes : (test : ℕ → Bool) (xs : List ℕ) (x : ℕ) → find test xs ≡ Some x → test x ≡ true
passes test [] x is = absurd (cc)
passes test (y ∷ ys) x is = elim (test y) as (λ b. test y ≡ b → cond b (Some y) (find test ys) ≡ Some x → test x ≡ true) [
  | true ↦ λ has e. let same : y ≡ x = cc in ap test (sym same) ∙ has
  | false ↦ λ no e. passes test ys x e
] refl is

lowest_is_in : (set s : ℕ) → lowest_signal set ≡ Some s → has_signal set s ≡ true
unfolding lowest_signal
lowest_is_in set s is = passes (has_signal set) (range_with_len 1 31) s is

second_goes : (b c : Bool) (first second : Outcome) → c ≡ true → is_some (cond b (Some first) (cond c (Some second) None)) ≡ true
second_goes true c first second has = refl
second_goes false true first second has = refl
second_goes false false first second has = true_false (sym has)

pending_goes : (g : Plain) (p : VPid) (t s : ℕ) (user : UserPart) (found : Option ThreadPart) → signal_for g p t found ≡ Some s
    → is_some (outcome_of_pending g p t s user found) ≡ true
pending_goes g p t s user None is = absurd (cc)
pending_goes g p t s user (Some thread) is =
    second_goes (traps_with (user_step user t) s) (has_signal (deliverable g.kernel p t thread) s) _ _ (lowest_is_in (deliverable g.kernel p t thread) s is)

pub signals : (g : Plain) (p : VPid) (t : Tid) (s : Signal) (user : UserPart) → map.get g.users p ≡ Some user
    → outcome g (Deliver p t s) ≡ outcome_of_pending g p t.0 s.0 user (map.get user.threads t.0)
unfolding outcome
signals g p t s user there = ap (outcome_of_signal g p t.0 s.0) there

pub due_can : (g : Plain) (p : VPid) (t : Tid) (user : UserPart) (found : Option Signal) → map.get g.users p ≡ Some user
    → option_map (λ (s : Signal). s.0) found ≡ signal_for g p t.0 (map.get user.threads t.0) → IfSome found (λ s. CanDeliver g p t s)
due_can g p t user None there is = tt
due_can g p t user (Some s) there is = ap is_some (signals g p t s user there) ∙ pending_goes g p t.0 s.0 user (map.get user.threads t.0) (sym is)

-- a trap's signal can be delivered
first_goes : (b c : Bool) (first second : Outcome) → b ≡ true → is_some (cond b (Some first) (cond c (Some second) None)) ≡ true
first_goes true c first second has = refl
first_goes false c first second has = true_false (sym has)

same_signal : (s : ℕ) → traps_with (Trapped s) s ≡ true
same_signal s = grind (arith, tests)

at_none : (user : UserPart) (t : ℕ) → map.get user.threads t ≡ None → user_step user t ≡ NoThread
unfolding user_step
at_none user t is = ap (step_of user t) is

trap_at : (g : Plain) (p : VPid) (t s : ℕ) (user : UserPart) (found : Option ThreadPart) → user_step user t ≡ Trapped s → map.get user.threads t ≡ found
    → is_some (outcome_of_pending g p t s user found) ≡ true
trap_at g p t s user None traps is = let nowhere : NoThread ≡ Trapped s = sym (at_none user t is) ∙ traps in absurd (cc)
trap_at g p t s user (Some thread) traps is =
    first_goes (traps_with (user_step user t) s) (has_signal (deliverable g.kernel p t thread) s) _ _ (ap (λ (place : UserStep). traps_with place s) traps ∙ same_signal s)

pub trap_can : (g : Plain) (p : VPid) (t : Tid) (s : Signal) (user : UserPart) → map.get g.users p ≡ Some user → user_step user t.0 ≡ Trapped s.0 → CanDeliver g p t s
trap_can g p t s user there traps = ap is_some (signals g p t s user there) ∙ trap_at g p t.0 s.0 user (map.get user.threads t.0) traps refl

-- whether a thread can go on
is_there : {A B : Type 0} (f : A → B) (o : Option A) → is_some (option_map f o) ≡ is_some o
is_there f None = refl
is_there f (Some a) = refl

module _ (g : Plain) (p : VPid) (t : ℕ) (user : UserPart) (q : Request) where
  served_goes : (served : Option Served) → is_some (outcome_of_serve g p t user q served) ≡ is_some served
  served_goes None = refl
  served_goes (Some served) = refl

  kind_goes : (given : List ℕ) (local : Bool) → is_some (cond local (Some (quiet (with_user g p (local_row user t q)))) (outcome_of_serve g p t user q (serve g.kernel p t q given)))
      ≡ not (not local && not (is_some (serve g.kernel p t q given)))
  kind_goes given true = refl
  kind_goes given false = served_goes (serve g.kernel p t q given) ∙ not_not (is_some (serve g.kernel p t q given))

  lent_goes : (given : Option (List ℕ)) → is_some (outcome_of_lent g p t user q given) ≡ not (waits_at g p t q given)
  lent_goes None = refl
  lent_goes (Some given) = kind_goes given (is_local q)

-- the call at which a thread stands, by what its buffers hold
pub asked : (g : Plain) (p : VPid) (t : Tid) (user : UserPart) (q : Request) → map.get g.users p ≡ Some user → user_step user t.0 ≡ Asks q
    → outcome g (Call p t) ≡ outcome_of_lent g p t.0 user q (lent user.memory q)
unfolding outcome
asked g p t user q there asks = ap (outcome_of_call g p t.0) there ∙ ap (outcome_of_ask g p t.0 user) asks

pub call_goes : (g : Plain) (p : VPid) (t : Tid) (user : UserPart) (q : Request) → map.get g.users p ≡ Some user → user_step user t.0 ≡ Asks q
    → is_some (step g (Call p t)) ≡ not (waits_at g p t.0 q (lent user.memory q))
call_goes g p t user q there asks =
    is_there (λ (o : Outcome). o.state) (outcome g (Call p t)) ∙ ap is_some (asked g p t user q there asks) ∙ lent_goes g p t.0 user q (lent user.memory q)

-- whether a call waits, by the front of what it reads
pub front_waits : (g : Plain) (p : VPid) (t : ℕ) (q : Request) (memory : Memory) (front : List ℕ) (ready : Bool)
    → is_local q ≡ false → ready ≡ is_ready g.kernel p t q front → (lent memory q ≡ None → ⊥)
    → ((given : List ℕ) → lent memory q ≡ Some given → front_of given ≡ front)
    → not ready ≡ waits_at g p t q (lent memory q)
front_waits g p t q memory front ready kernels is reads each = by_lent (lent memory q) refl
  where
    by_lent : (found : Option (List ℕ)) → lent memory q ≡ found → not ready ≡ waits_at g p t q found
    by_lent None none = absurd (reads none)
    by_lent (Some given) at =
        ap not (is ∙ ap (is_ready g.kernel p t q) (sym (each given at)) ∙ sym (ready_by_front g.kernel p t q given))
        ∙ sym (ap (λ b. not b && not (is_some (serve g.kernel p t q given))) kernels)

goes_at : (g : Plain) (p : VPid) (t : ℕ) (user : UserPart) (place : UserStep) → map.get g.users p ≡ Some user → user_step user t ≡ place → (place ≡ NoThread → ⊥)
    → not (is_unready g p t user place) ≡ goes_on_at g p t place
goes_at g p t user (Stepped after) there is thread = refl
goes_at g p t user (Asks q) there is thread = sym (call_goes g p (record { 0 = t }) user q there is)
goes_at g p t user (Trapped s) there is thread = refl
goes_at g p t user Waits there is thread = refl
goes_at g p t user NoThread there is thread = absurd (thread refl)

by_effect : (user : UserPart) (t : ℕ) (thread : ThreadPart) (e : Effect) → step_by user t thread e ≡ NoThread → ⊥
by_effect user t thread (Next regs memory) is = cc
by_effect user t thread Calls is = cc
by_effect user t thread (Traps s) is = cc

by_waiting : (user : UserPart) (t : ℕ) (thread : ThreadPart) (b : Bool) → cond b Waits (step_by user t thread (effect_at thread.regs user.memory)) ≡ NoThread → ⊥
by_waiting user t thread true is = cc
by_waiting user t thread false is = by_effect user t thread (effect_at thread.regs user.memory) is

by_thread : (user : UserPart) (t : ℕ) (found : Option ThreadPart) → is_some found ≡ true → step_of user t found ≡ NoThread → ⊥
by_thread user t None there is = cc
by_thread user t (Some thread) there is = by_waiting user t thread (waits user t) is

pub thread_stands : (user : UserPart) (t : ℕ) → is_some (map.get user.threads t) ≡ true → user_step user t ≡ NoThread → ⊥
unfolding user_step
thread_stands user t there is = by_thread user t (map.get user.threads t) there is

pub no_thread : (user : UserPart) (t : ℕ) → is_some (map.get user.threads t) ≡ false → user_step user t ≡ NoThread
unfolding user_step
no_thread user t none = ap (step_of user t) (no_value (map.get user.threads t) none)

pub goes_is : (g : Plain) (p : VPid) (t : ℕ) (user : UserPart) → map.get g.users p ≡ Some user → is_some (map.get user.threads t) ≡ true
    → not (is_unready g p t user (user_step user t)) ≡ goes_on g p t (map.get g.users p)
unfolding goes_on
goes_is g p t user there thread = goes_at g p t user (user_step user t) there refl (thread_stands user t thread) ∙ sym (ap (goes_on g p t) there)

pub nobody_goes : (g : Plain) (p : VPid) (t : ℕ) (user : UserPart) → map.get g.users p ≡ Some user → is_some (map.get user.threads t) ≡ false
    → false ≡ goes_on g p t (map.get g.users p)
unfolding goes_on
nobody_goes g p t user there none = sym (ap (goes_on g p t) there ∙ ap (goes_on_at g p t) (no_thread user t none))

pub none_goes : (g : Plain) (p : VPid) (t : ℕ) → map.get g.users p ≡ None → false ≡ goes_on g p t (map.get g.users p)
unfolding goes_on
none_goes g p t there = sym (ap (goes_on g p t) there)

-- what a look tells
pub idle_waits : (g : Plain) (p : VPid) (t : ℕ) (user : UserPart) (place : UserStep) → ran_at place ≡ RanWaits → true ≡ is_unready g p t user place
idle_waits g p t user (Stepped after) is = absurd (cc)
idle_waits g p t user (Asks q) is = absurd (cc)
idle_waits g p t user (Trapped s) is = absurd (cc)
idle_waits g p t user Waits is = refl
idle_waits g p t user NoThread is = absurd (cc)

pub asks_at : (place : UserStep) (q : Request) → ran_at place ≡ RanAsks q → place ≡ Asks q
asks_at (Stepped after) q is = absurd (cc)
asks_at (Asks other) q is = let same : other ≡ q = cc in ap (λ (x : Request). Asks x) same
asks_at (Trapped s) q is = absurd (cc)
asks_at Waits q is = absurd (cc)
asks_at NoThread q is = absurd (cc)

pub idle_asks : (g : Plain) (p : VPid) (t : ℕ) (user : UserPart) (place : UserStep) (q : Request) → ran_at place ≡ RanAsks q
    → waits_at g p t q (lent user.memory q) ≡ is_unready g p t user place
idle_asks g p t user place q is = sym (ap (is_unready g p t user) (asks_at place q is))

pub idle_else : (g : Plain) (p : VPid) (t : ℕ) (user : UserPart) (place : UserStep) → (ran_at place ≡ RanWaits → ⊥) → ((q : Request) → ran_at place ≡ RanAsks q → ⊥)
    → false ≡ is_unready g p t user place
idle_else g p t user (Stepped after) waits asks = refl
idle_else g p t user (Asks q) waits asks = absurd (asks q refl)
idle_else g p t user (Trapped s) waits asks = refl
idle_else g p t user Waits waits asks = absurd (waits refl)
idle_else g p t user NoThread waits asks = refl

pub traps_at : (place : UserStep) (s : Signal) → ran_at place ≡ RanTrapped s → place ≡ Trapped s.0
traps_at (Stepped after) s is = absurd (cc)
traps_at (Asks q) s is = absurd (cc)
traps_at (Trapped trap) s is = let same : record { 0 = trap } ≡ s = cc in ap (λ (x : Signal). Trapped x.0) same
traps_at Waits s is = absurd (cc)
traps_at NoThread s is = absurd (cc)

-- the directions of which bytes are missing
pub one_more : (entry : Dir × Direction) (rest : List (Dir × Direction)) → nat_lt entry.1.arrived (length entry.1.left) ≡ true
    → filter_map if_missing (entry ∷ rest) ≡ entry.0 ∷ filter_map if_missing rest
one_more entry rest missing = grind (arith, tests)

pub none_more : (entry : Dir × Direction) (rest : List (Dir × Direction)) → nat_lt entry.1.arrived (length entry.1.left) ≡ false
    → filter_map if_missing (entry ∷ rest) ≡ filter_map if_missing rest
none_more entry rest here = grind (arith, tests)

pub coming_is : (g : Plain) (entries : List (Dir × Direction)) → entries ≡ map.entries g.kernel.directions → coming g ≡ filter_map if_missing entries
unfolding coming
coming_is g entries is = ap (filter_map if_missing) (sym is)

-- The rounds leave no choice, and once nobody lives or can go on no more work is done.
--     one_order, one_trace, ends_there, one_end, one_ending, ends_so, one_answer
--     one_ended      one_ending, of runs that have ended
use Rattle.std.proofs.Common.{◌≡◌, ℕ, zero, ◌-◌, ◌^◌, ◌<◌, ◌≤◌, Bool, true, false, cond, not, List, [], ◌∷◌, ◌++◌, length, take, Option, Some, None, inl, inr, refl, sym, ap, subst, ◌∙◌, arith}
use Rattle.std.specs.Prelude.{◌⊎◌, ◌&&◌, ◌||◌, nat_lt, is_some, option_and_then, map as each, All, IfSome}
use Rattle.std.specs.Option.{option_map, option_map_or, option_or}
use Rattle.std.specs.FinMap as map
use Rattle.std.proofs.lemmas.List.{take_all}
use Rattle.std.proofs.lemmas.List.Elements.{All-head, All-tail}
use Rattle.views.proofs.MapLaws.{true_false}
use Rattle.views.proofs.MapValues.{EachEntry, each_entry}
use Rattle.sys_abi.proofs.OrderLaws.{vpid_total, vpid_exact}
use Rattle.sys_abi.specs.declared.identity.VPid.{VPid}
use Rattle.sys_abi.specs.declared.identity.Dir.{Dir}
use Rattle.sys_abi.specs.declared.record.Record.{Record}
use Rattle.sys_abi.specs.declared.record.Record.TheVariants.{User, Call, Deliver, Arrive, Cut, Drained, Refilled, Complete, Refused, Lapsed}
use Rattle.plain_machine.specs.declared.plain.Plain.{Plain}
use Rattle.plain_process.specs.declared.user_part.UserPart.{UserPart}
use Rattle.plain_machine.specs.Records.{Outcome, outcome, step, quiet}
use Rattle.plain_machine.specs.Runs.{run, console, console_from}
use Rattle.plain_machine.specs.Tests.{ended, full_arrive, is_work, unsupported, IsStuck}
use Rattle.plain_machine.specs.Valid.{IsValid}
use Rattle.plain_machine.proofs.StepBounds.{step_keeps_valid}
use Rattle.trace_log.specs.declared.requests.Schedule.{Schedule}
use Rattle.trace_log.specs.declared.requests.Tally.{Tally}
use Rattle.trace_log.specs.Requests.{Requests, Phase, NoRequest, Requested, AfterCut, asks, is_mark, is_multiple_of, next_requests, phase_after, tally_after}
use Rattle.trace_log.proofs.RequestMarks.{has_no_marks, is_each_without_marks}
use Rattle.trace_log.specs.Turns.{Place, Arrival, InTurn, Upcoming, due_signal, turn_of, turn_with, NewRound, After, threads_in, first_thread, first_turn, coming, round_of, round_from, new_round, next_turn, same_turn, stands_in, goes_on, due_at, is_due_at}
use Rattle.drive.specs.HandedOn.{Standing, GoesInRounds, is_due, is_first_arrival, is_due_for_cut, request_waits, moved, moved_by, standing_after, each_is_due, first_standing}
use Rattle.drive.specs.declared.loop_end.LoopEnd.{LoopEnd}
use Rattle.drive.specs.RunEnds.{IsRun, RanOut, EndsRun}
use Rattle.drive.specs.declared.loop_end.LoopEnd.TheVariants.{Done as LoopDone, Budget as LoopBudget, Stuck as LoopStuck, SinkFault as LoopSinkFault, Memory as LoopMemory}
use Rattle.job_words.specs.declared.job.Job.TheVariants.{Launch, Restart}
use Rattle.dmtcp_top.specs.Jobs.{NameNoEvery}
use Rattle.dmtcp_top.specs.Launches.{Begun, origin, schedule_in, beginning}
use Rattle.dmtcp_top.specs.Launches.Begun.{ByLaunch, ByRestart}
use Rattle.edge_io.specs.Sunk.{Sunk, Took}
use Rattle.dmtcp_top.specs.Sessions.{Session, Given, Beginning}
use Rattle.dmtcp_top.specs.Ends.{CameTo, CallGoesInRounds}
use Rattle.dmtcp_top.specs.OneOrder.{work_in, steps_in, OneOrder, OneTrace, EndsThere, OneEnd, OneEnding, EndsSo, OneAnswer, BeganWith, RunsToEnd, no_checkpoints, ComesToRest, IsAnswer}
use Rattle.drive.proofs.HandedOn.{left_true, right_true, mark_stays, mark_is_quiet}
use Rattle.dmtcp_top.proofs.AtRest.{at_rest, nobody_there}
use Rattle.dmtcp_top.proofs.Arriving.{arrives_fully, arrives_quietly, ends_on, rests_on, none_arrives}
use Rattle.dmtcp_top.proofs.Determined.{one_record}

-- a process that has ended has no turn
gone : (g : Plain) (p : VPid) (t : ℕ) (later : List ℕ) (processes : List VPid) → map.get g.users p ≡ None → turn_of g p t later processes ≡ None
unfolding due_signal goes_on
gone g p t later processes none =
    ap (λ o. turn_with p t later processes (goes_on g p t o) (due_signal g p t (map.get g.users p))) none ∙ ap (λ o. turn_with p t later processes false (due_signal g p t o)) none

-- the first of the records, and the rest of them
record IsFirst (schedule : Schedule) (g : Plain) (at : Standing) (r : Record) (rest : List Record) : Type 0 where
  pub o : Outcome
  pub goes : outcome g r ≡ Some o
  pub due : is_due g at r ≡ true
  pub later : each_is_due schedule o.state (standing_after schedule g at r) rest ≡ true

first_of : (schedule : Schedule) (g : Plain) (at : Standing) (r : Record) (rest : List Record) → each_is_due schedule g at (r ∷ rest) ≡ true → IsFirst schedule g at r rest
unfolding each_is_due
first_of schedule g at r rest order = elim (outcome g r) as (λ found.
    outcome g r ≡ found → (is_due g at r && option_map_or (λ next. each_is_due schedule next (standing_after schedule g at r) rest) (option_map (λ (o : Outcome). o.state) found) false) ≡ true → IsFirst schedule g at r rest) [
      | None ↦ λ is e. true_false (sym (right_true (is_due g at r) false e))
      | Some o ↦ λ is e. record { o = o; goes = is; due = left_true (is_due g at r) _ e; later = right_true (is_due g at r) _ e }
    ] refl order

-- the steps of the rounds alone, from a state and a place on
abbrev pub Steps : Plain → Upcoming → List Record → Plain → Type 0
Steps g upcoming [] last = g ≡ last
Steps g upcoming (r ∷ rest) last =
    (o : Outcome) × (outcome g r ≡ Some o) × (is_mark r ≡ false) × (is_due_at g (due_at g upcoming) r ≡ true) × Steps o.state (moved_by (due_at g upcoming) upcoming r) rest last

some_same : {A : Type 0} (a b : A) → Some a ≡ Some b → a ≡ b
some_same a b is = cc

-- where no checkpoints are made no request waits
never_asks : (schedule : Schedule) (tally : Tally) → schedule.every ≡ None → asks schedule tally ≡ false
unfolding asks
never_asks schedule tally none = ap (λ o. is_multiple_of o tally.work && nat_lt tally.greatest (2 ^ 64 - 2)) none

still_none : (phase : Phase) (g : Plain) (r : Record) → request_waits phase ≡ false → request_waits (phase_after phase false g r) ≡ false
still_none NoRequest g (User p t n) free = refl
still_none NoRequest g (Call p t) free = refl
still_none NoRequest g (Deliver p t s) free = refl
still_none NoRequest g (Arrive dir n) free = refl
still_none NoRequest g (Cut generation) free = refl
still_none NoRequest g (Drained dir n) free = refl
still_none NoRequest g (Refilled dir n) free = refl
still_none NoRequest g (Complete generation) free = refl
still_none NoRequest g (Refused cause) free = refl
still_none NoRequest g Lapsed free = refl
still_none (Requested since) g r free = true_false free
still_none (AfterCut still) g (User p t n) free = refl
still_none (AfterCut still) g (Call p t) free = refl
still_none (AfterCut still) g (Deliver p t s) free = refl
still_none (AfterCut still) g (Arrive dir n) free = refl
still_none (AfterCut still) g (Cut generation) free = refl
still_none (AfterCut []) g (Drained dir n) free = refl
still_none (AfterCut []) g (Refilled dir n) free = refl
still_none (AfterCut []) g (Complete generation) free = refl
still_none (AfterCut []) g (Refused cause) free = refl
still_none (AfterCut []) g Lapsed free = refl
still_none (AfterCut (mark ∷ still)) g (Drained dir n) free = refl
still_none (AfterCut (mark ∷ still)) g (Refilled dir n) free = refl
still_none (AfterCut (mark ∷ still)) g (Complete generation) free = refl
still_none (AfterCut (mark ∷ still)) g (Refused cause) free = refl
still_none (AfterCut (mark ∷ still)) g Lapsed free = refl

never_waits : (schedule : Schedule) (g : Plain) (now : Requests) (r : Record) → schedule.every ≡ None → request_waits now.phase ≡ false → request_waits (next_requests schedule g now r).phase ≡ false
unfolding next_requests
never_waits schedule g now r none free = ap (λ asked. request_waits (phase_after now.phase asked g r)) (never_asks schedule (tally_after now.tally r) none) ∙ still_none now.phase g r free

-- what is due is a mark, or due in the rounds
due_there : (g : Plain) (at : Standing) (r : Record) → request_waits at.requests.phase ≡ false → is_mark r ≡ false → is_due g at r ≡ true → is_due_at g (due_at g at.upcoming) r ≡ true
due_there g at r free plain due =
    sym (ap (λ b. b || cond (request_waits at.requests.phase) (is_due_for_cut g r) (is_due_at g (due_at g at.upcoming) r)) plain
    ∙ ap (λ b. cond b (is_due_for_cut g r) (is_due_at g (due_at g at.upcoming) r)) free) ∙ due

moves_there : (g : Plain) (at : Standing) (r : Record) → request_waits at.requests.phase ≡ false → is_mark r ≡ false → moved g at r ≡ moved_by (due_at g at.upcoming) at.upcoming r
moves_there g at r free plain =
    ap (λ b. cond (b || request_waits at.requests.phase) at.upcoming (moved_by (due_at g at.upcoming) at.upcoming r)) plain
    ∙ ap (λ b. cond b at.upcoming (moved_by (due_at g at.upcoming) at.upcoming r)) free

-- a mark is no step, and moves nobody
passed : (g last : Plain) (at : Standing) (r : Record) (o : Outcome) (steps : List Record) → is_mark r ≡ true → outcome g r ≡ Some o → Steps o.state (moved g at r) steps last → Steps g at.upcoming steps last
passed g last at r o steps marks goes later =
    let same : o ≡ quiet g = some_same o (quiet g) (sym goes ∙ mark_is_quiet g r marks) in
    let state : o.state ≡ g = ap (λ (x : Outcome). x.state) same in
    subst (λ h. Steps h at.upcoming steps last) state (subst (λ upcoming. Steps o.state upcoming steps last) (mark_stays g at r marks) later)

joined : (g last : Plain) (at : Standing) (r : Record) (o : Outcome) (steps : List Record) (b : Bool) → is_mark r ≡ b → request_waits at.requests.phase ≡ false → outcome g r ≡ Some o → is_due g at r ≡ true → Steps o.state (moved g at r) steps last
    → Steps g at.upcoming (cond (not b) (r ∷ steps) steps) last
joined g last at r o steps true is free goes due later = passed g last at r o steps is goes later
joined g last at r o steps false is free goes due later =
    (o, goes, is, due_there g at r free is due, subst (λ upcoming. Steps o.state upcoming steps last) (moves_there g at r free is) later)

-- a trace in rounds is a run, and its steps go in them too
pub record Stripped (g : Plain) (upcoming : Upcoming) (records : List Record) : Type 0 where
  pub last : Plain
  pub runs : run g records ≡ Some last
  pub steps : Steps g upcoming (steps_in records) last

runs_further : (g : Plain) (r : Record) (o : Outcome) (rest : List Record) → outcome g r ≡ Some o → run g (r ∷ rest) ≡ run o.state rest
unfolding run
runs_further g r o rest goes = ap (λ found. option_and_then (λ next. run next rest) (option_map (λ (x : Outcome). x.state) found)) goes

runs_none : (g : Plain) → run g [] ≡ Some g
unfolding run
runs_none g = refl

stripped : (schedule : Schedule) (g : Plain) (at : Standing) (records : List Record) → schedule.every ≡ None → request_waits at.requests.phase ≡ false → each_is_due schedule g at records ≡ true → Stripped g at.upcoming records
stripped schedule g at [] none free order = record { last = g; runs = runs_none g; steps = refl }
stripped schedule g at (r ∷ rest) none free order =
    let first = first_of schedule g at r rest order in
    let more = stripped schedule first.o.state (standing_after schedule g at r) rest none (never_waits schedule g at.requests r none free) first.later in
    record {
      last = more.last;
      runs = runs_further g r first.o rest first.goes ∙ more.runs;
      steps = joined g more.last at r first.o (steps_in rest) (is_mark r) refl free first.goes first.due more.steps;
    }

-- of two the first steps are the same, and so is what follows
record AreAlike (g : Plain) (upcoming : Upcoming) (x y : Record) (a b : List Record) (last final : Plain) : Type 0 where
  pub same : x ≡ y
  pub o : Outcome
  pub goes : outcome g x ≡ Some o
  pub there : Upcoming
  pub first : Steps o.state there a last
  pub second : Steps o.state there b final

alike : (g last final : Plain) (upcoming : Upcoming) (x y : Record) (a b : List Record) → Steps g upcoming (x ∷ a) last → Steps g upcoming (y ∷ b) final → AreAlike g upcoming x y a b last final
alike g last final upcoming x y a b first second =
    let due = due_at g upcoming in
    let same = one_record g due x y first.0 second.0 first.3 second.3 first.1 second.1 in
    let out : second.0 ≡ first.0 = some_same second.0 first.0 (sym second.1 ∙ ap (outcome g) (sym same) ∙ first.1) in
    record {
      same = same;
      o = first.0;
      goes = first.1;
      there = moved_by due upcoming x;
      first = first.4;
      second = subst (λ r. Steps first.0.state (moved_by due upcoming r) b final) (sym same) (subst (λ (o : Outcome). Steps o.state (moved_by due upcoming y) b final) out second.4);
    }

take_none : (b : List Record) → [] ≡ take zero b
take_none b = refl

take_one : (x y : Record) (a b : List Record) → x ≡ y → a ≡ take (length a) b → x ∷ a ≡ take (length (x ∷ a)) (y ∷ b)
take_one x y a b same rest = ap (λ r. r ∷ a) same ∙ ap (λ l. y ∷ l) rest ∙ taken
  where
    taken : y ∷ take (length a) b ≡ take (length (x ∷ a)) (y ∷ b)
    taken = grind arith

no_room : {A : Type 0} (x : Record) (a : List Record) → length (x ∷ a) ≤ length {A = Record} [] → A
no_room x a less = absurd (grind arith)

less_room : (x y : Record) (a b : List Record) → length (x ∷ a) ≤ length (y ∷ b) → length a ≤ length b
less_room x y a b less = grind arith

front : (g last final : Plain) (upcoming : Upcoming) (a b : List Record) → Steps g upcoming a last → Steps g upcoming b final → length a ≤ length b → a ≡ take (length a) b
front g last final upcoming [] b first second less = take_none b
front g last final upcoming (x ∷ a) [] first second less = no_room x a less
front g last final upcoming (x ∷ a) (y ∷ b) first second less =
    let both = alike g last final upcoming x y a b first second in
    take_one x y a b both.same (front both.o.state last final both.there a b both.first both.second (less_room x y a b less))

pub one_order : OneOrder
one_order schedule other g a b none also first second less =
    let one = stripped schedule g (first_standing schedule) a none refl first in
    let two = stripped other g (first_standing other) b also refl second in
    front g one.last two.last NewRound (steps_in a) (steps_in b) one.steps two.steps less

-- without marks all of a trace are steps
all_steps : (records : List Record) → All (λ r. is_mark r ≡ false) records → steps_in records ≡ records
all_steps [] plain = refl
all_steps (r ∷ rest) plain =
    ap (λ b. cond (not b) (r ∷ steps_in rest) (steps_in rest)) (All-head (λ x. is_mark x ≡ false) r rest plain)
    ∙ ap (λ l. r ∷ l) (all_steps rest (All-tail (λ x. is_mark x ≡ false) r rest plain))

steps_of_run : (schedule : Schedule) (g last : Plain) (room : ℕ) (a : List Record) → schedule.every ≡ None → IsRun schedule g room a last → steps_in a ≡ a
steps_of_run schedule g last room a none is = all_steps a (has_no_marks schedule g last is.requests a none is.reaches).0

pub one_trace : OneTrace
one_trace schedule other g last final room more a b none also first second order order_too less =
    let one = steps_of_run schedule g last room a none first in
    let two = steps_of_run other g final more b also second in
    subst (λ l. l ≡ take (length l) b) one
    (subst (λ l. steps_in a ≡ take (length (steps_in a)) l) two
    (one_order schedule other g a b none also order order_too (subst (λ l. length l ≤ length (steps_in b)) (sym one) (subst (λ l. length a ≤ length l) (sym two) less))))

run_keeps_valid : (g last : Plain) (records : List Record) → IsValid g → run g records ≡ Some last → IsValid last
unfolding run
run_keeps_valid g last [] valid runs = subst IsValid (some_same g last runs) valid
run_keeps_valid g last (r ∷ rest) valid runs = elim (step g r) as (λ found. step g r ≡ found → option_and_then (λ next. run next rest) found ≡ Some last → IsValid last) [
  | None ↦ λ is e. absurd (cc)
  | Some next ↦ λ is e. run_keeps_valid next last rest (step_keeps_valid g next r valid is) e
] refl runs

-- what is no mark is work, or bytes arrive
data Kind (r : Record) : Type 0 where
  Works : is_work r ≡ true → Kind r
  Arrives : (dir : Dir) (n : ℕ) → r ≡ Arrive dir n → Kind r
  Marks : is_mark r ≡ true → Kind r

kind : (r : Record) → Kind r
kind (User p t n) = Works refl
kind (Call p t) = Works refl
kind (Deliver p t s) = Works refl
kind (Arrive dir n) = Arrives dir n refl
kind (Cut generation) = Marks refl
kind (Drained dir n) = Marks refl
kind (Refilled dir n) = Marks refl
kind (Complete generation) = Marks refl
kind (Refused cause) = Marks refl
kind Lapsed = Marks refl

-- a mark is no work
idle_mark : (r : Record) → is_mark r ≡ true → is_work r ≡ false
idle_mark (User p t n) marks = sym marks
idle_mark (Call p t) marks = sym marks
idle_mark (Deliver p t s) marks = sym marks
idle_mark (Arrive dir n) marks = refl
idle_mark (Cut generation) marks = refl
idle_mark (Drained dir n) marks = refl
idle_mark (Refilled dir n) marks = refl
idle_mark (Complete generation) marks = refl
idle_mark (Refused cause) marks = refl
idle_mark Lapsed marks = refl

-- nothing more is due there
abbrev ComesToEnd : Plain → Type 0
ComesToEnd last = (ended last ≡ true) ⊎ (IsStuck last × (full_arrive last ≡ last))

-- where nobody lives no round goes on
nobody_left : (g : Plain) → IsValid g → ended g ≡ true → map.keys g.users ≡ []
nobody_left g valid over = by (map.entries g.users) (each_entry vpid_total vpid_exact (λ p user. ⊥) g.users (λ p user is. none_found p user (nobody_there g p valid over) is))
  where
    none_found : (p : VPid) (user : UserPart) → map.get g.users p ≡ None → map.get g.users p ≡ Some user → ⊥
    none_found p user none some = cc

    by : (es : List (VPid × UserPart)) → EachEntry (λ p user. ⊥) es → each (λ (e : VPid × UserPart). e.0) es ≡ []
    by [] none = refl
    by (e ∷ es) none = absurd none.0

no_round_from : (g : Plain) (dirs : List Dir) → map.keys g.users ≡ [] → round_from g dirs ≡ None
no_round_from g dirs nobody = ap (round_of g dirs) nobody

no_first_thread : (g : Plain) (p : VPid) (processes : List VPid) (threads : List ℕ) → ((q : VPid) → map.get g.users q ≡ None) → first_thread g p processes threads ≡ None
unfolding first_thread
no_first_thread g p processes [] nobody = refl
no_first_thread g p processes (t ∷ threads) nobody = ap (λ o. option_or o (first_thread g p processes threads)) (gone g p t threads processes (nobody p)) ∙ no_first_thread g p processes threads nobody

no_first_turn : (g : Plain) (processes : List VPid) → ((q : VPid) → map.get g.users q ≡ None) → first_turn g processes ≡ None
unfolding first_turn first_thread
no_first_turn g [] nobody = refl
no_first_turn g (p ∷ processes) nobody = ap (λ o. option_or (first_thread g p processes (threads_in o)) (first_turn g processes)) (nobody p) ∙ no_first_turn g processes nobody

no_next_turn : (g : Plain) (here : Place) → map.keys g.users ≡ [] → ((q : VPid) → map.get g.users q ≡ None) → next_turn g here ≡ None
no_next_turn g here none nobody =
    ap (λ o. option_or (option_map InTurn o) (option_or (option_map InTurn (first_turn g here.processes)) (new_round g))) (no_first_thread g here.p here.processes here.threads nobody)
    ∙ ap (λ o. option_or (option_map InTurn o) (new_round g)) (no_first_turn g here.processes nobody)
    ∙ no_round_from g (coming g) none

no_same_turn : (g : Plain) (here : Place) (has_run : Bool) → map.keys g.users ≡ [] → ((q : VPid) → map.get g.users q ≡ None) → same_turn g here has_run ≡ None
unfolding goes_on
no_same_turn g here has_run none nobody =
    ap (λ o. cond (goes_on g here.p here.t o) (Some (InTurn (record { p = here.p; t = here.t; signal = None; has_run = has_run; threads = here.threads; processes = here.processes }))) (next_turn g here)) (nobody here.p)
    ∙ no_next_turn g here none nobody

either_turn : (g : Plain) (here : Place) (has_run b : Bool) → map.keys g.users ≡ [] → ((q : VPid) → map.get g.users q ≡ None) → cond b (same_turn g here has_run) (next_turn g here) ≡ None
either_turn g here has_run true none nobody = no_same_turn g here has_run none nobody
either_turn g here has_run false none nobody = no_next_turn g here none nobody

nothing_due : (g : Plain) (upcoming : Upcoming) → map.keys g.users ≡ [] → ((q : VPid) → map.get g.users q ≡ None) → due_at g upcoming ≡ None
nothing_due g NewRound none nobody = no_round_from g (coming g) none
nothing_due g (After (Arrival dir dirs) r) none nobody = no_round_from g dirs none
nothing_due g (After (InTurn here) (User p t n)) none nobody = either_turn g here true (stands_in (map.get g.users here.p) here.t) none nobody
nothing_due g (After (InTurn here) (Call p t)) none nobody = no_next_turn g here none nobody
nothing_due g (After (InTurn here) (Deliver p t s)) none nobody = either_turn g here false (is_some here.signal) none nobody
nothing_due g (After (InTurn here) (Arrive dir n)) none nobody = refl
nothing_due g (After (InTurn here) (Cut generation)) none nobody = refl
nothing_due g (After (InTurn here) (Drained dir n)) none nobody = refl
nothing_due g (After (InTurn here) (Refilled dir n)) none nobody = refl
nothing_due g (After (InTurn here) (Complete generation)) none nobody = refl
nothing_due g (After (InTurn here) (Refused cause)) none nobody = refl
nothing_due g (After (InTurn here) Lapsed) none nobody = refl

-- nothing comes after an end
no_step : {A : Type 0} (g : Plain) (upcoming : Upcoming) (r : Record) (o : Outcome) → IsValid g → ComesToEnd g → outcome g r ≡ Some o → is_mark r ≡ false → is_due_at g (due_at g upcoming) r ≡ true → A
no_step g upcoming r o valid (inl over) goes plain due =
    true_false (sym due ∙ ap (λ d. is_due_at g d r) (nothing_due g upcoming (nobody_left g valid over) (λ q. nobody_there g q valid over)))
no_step {A} g upcoming r o valid (inr stuck) goes plain due = by (kind r)
  where
    by : Kind r → A
    by (Works work) = at_rest g r o valid (inr stuck.0) work goes
    by (Marks marks) = true_false (sym marks ∙ plain)
    by (Arrives dir n is) = none_arrives g dir n o stuck.1 (ap (outcome g) (sym is) ∙ goes)

-- the record at the end is a step at the state where the others lead to, and due there
record IsLast (last : Plain) (r : Record) : Type 0 where
  pub at : Standing
  pub o : Outcome
  pub goes : outcome last r ≡ Some o
  pub due : is_due last at r ≡ true

last_of : (g last : Plain) (schedule : Schedule) (at : Standing) (records : List Record) (r : Record) → each_is_due schedule g at (records ++ r ∷ []) ≡ true → run g records ≡ Some last → IsLast last r
last_of g last schedule at [] r order runs =
    let first = first_of schedule g at r [] order in
    subst (λ h. IsLast h r) (some_same g last (sym (runs_none g) ∙ runs)) (record { at = at; o = first.o; goes = first.goes; due = first.due })
last_of g last schedule at (x ∷ rest) r order runs =
    let first = first_of schedule g at x (rest ++ r ∷ []) order in
    last_of first.o.state last schedule (standing_after schedule g at x) rest r first.later (sym (runs_further g x first.o rest first.goes) ∙ runs)

-- where nobody lives only a mark is due
none_for_cut : (g : Plain) (r : Record) → ended g ≡ true → is_due_for_cut g r ≡ false
none_for_cut g r over = ap (λ b. not b && not (is_some (unsupported g)) && is_first_arrival g (coming g) r) over

none_due : (g : Plain) (at : Standing) (r : Record) → IsValid g → ended g ≡ true → is_mark r ≡ false → is_due g at r ≡ false
none_due g at r valid over plain =
    ap (λ b. b || cond (request_waits at.requests.phase) (is_due_for_cut g r) (is_due_at g (due_at g at.upcoming) r)) plain ∙ by (request_waits at.requests.phase)
  where
    by : (b : Bool) → cond b (is_due_for_cut g r) (is_due_at g (due_at g at.upcoming) r) ≡ false
    by true = none_for_cut g r over
    by false = ap (λ d. is_due_at g d r) (nothing_due g at.upcoming (nobody_left g valid over) (λ q. nobody_there g q valid over))

pub ends_there : EndsThere
ends_there schedule g last records r valid runs over order = by (kind r)
  where
    end : IsLast last r
    end = last_of g last schedule (first_standing schedule) records r order runs

    there : IsValid last
    there = run_keeps_valid g last records valid runs

    still : is_mark r ≡ false → (dir : Dir) (n : ℕ) → r ≡ Arrive dir n → (ended last ≡ true) ⊎ (full_arrive last ≡ last) → is_mark r ≡ true
    still plain dir n is (inl nobody) = true_false (sym end.due ∙ none_due last end.at r there nobody plain)
    still plain dir n is (inr all) = none_arrives last dir n end.o all (ap (outcome last) (sym is) ∙ end.goes)

    by : Kind r → (is_work r ≡ false) × ((ended last ≡ true) ⊎ (full_arrive last ≡ last) → is_mark r ≡ true)
    by (Works work) = at_rest last r end.o there over work end.goes
    by (Arrives dir n is) = (ap is_work is, still (ap is_mark is) dir n is)
    by (Marks marks) = (idle_mark r marks, λ all. marks)

-- once nobody lives or can go on only arrivals come
record OnlyArrives (g final : Plain) (b : List Record) : Type 0 where
  pub works : work_in b ≡ []
  pub shown : console g b ≡ []
  pub lives : ended final ≡ ended g
  pub none : ended g ≡ true → g ≡ final
  pub state : full_arrive g ≡ full_arrive final

nothing_shown : (g : Plain) → console g [] ≡ []
unfolding console
nothing_shown g = refl

shows : (g : Plain) (r : Record) (o : Outcome) (rest : List Record) → outcome g r ≡ Some o → console g (r ∷ rest) ≡ o.console ++ console o.state rest
unfolding console
shows g r o rest goes = ap (console_from (λ next. console next rest)) goes

only_arrives : (g final : Plain) (upcoming : Upcoming) (b : List Record) → Steps g upcoming b final → IsValid g → ComesToRest g → OnlyArrives g final b
only_arrives g final upcoming [] steps valid over = record {
  works = refl;
  shown = nothing_shown g;
  lives = sym (ap ended steps);
  none = λ nobody. steps;
  state = ap full_arrive steps;
}
only_arrives g final upcoming (y ∷ b) steps valid over = by (kind y) (λ kept rests. only_arrives steps.0.state final (moved_by (due_at g upcoming) upcoming y) b steps.4 kept rests)
  where
    by : Kind y → (IsValid steps.0.state → ComesToRest steps.0.state → OnlyArrives steps.0.state final b) → OnlyArrives g final (y ∷ b)
    by (Works work) on = at_rest g y steps.0 valid over work steps.1
    by (Marks marks) on = true_false (sym marks ∙ steps.2)
    by (Arrives dir n is) on =
        let goes : outcome g (Arrive dir n) ≡ Some steps.0 = ap (outcome g) (sym is) ∙ steps.1 in
        let more = on (step_keeps_valid g steps.0.state y valid (ap (option_map (λ (o : Outcome). o.state)) steps.1)) (rests_on g dir n steps.0 goes over) in
        record {
          works = ap (λ w. cond w (y ∷ work_in b) (work_in b)) (ap is_work is) ∙ more.works;
          shown = shows g y steps.0 b steps.1 ∙ ap (λ l. l ++ console steps.0.state b) (arrives_quietly g dir n steps.0 goes) ∙ more.shown;
          lives = more.lives ∙ ends_on g dir n steps.0 goes;
          none = λ nobody. no_step g upcoming y steps.0 valid (inl nobody) steps.1 steps.2 steps.3;
          state = sym (arrives_fully g dir n steps.0 goes) ∙ more.state;
        }

-- two that come to states where nobody lives or can go on
record SameEnd (g last final : Plain) (a b : List Record) : Type 0 where
  pub works : work_in a ≡ work_in b
  pub shown : console g a ≡ console g b
  pub same : ended last ≡ true → last ≡ final
  pub state : full_arrive last ≡ full_arrive final

same_end : (g last final : Plain) (upcoming : Upcoming) (a b : List Record) → Steps g upcoming a last → Steps g upcoming b final → IsValid g → ComesToRest last → ComesToRest final → SameEnd g last final a b
same_end g last final upcoming [] b first second valid over too =
    let only = only_arrives g final upcoming b second valid (subst ComesToRest (sym first) over) in
    record {
      works = sym only.works;
      shown = nothing_shown g ∙ sym only.shown;
      same = λ nobody. sym first ∙ only.none (ap ended first ∙ nobody);
      state = ap full_arrive (sym first) ∙ only.state;
    }
same_end g last final upcoming (x ∷ a) [] first second valid over too =
    let only = only_arrives g last upcoming (x ∷ a) first valid (subst ComesToRest (sym second) too) in
    record {
      works = only.works;
      shown = only.shown ∙ sym (nothing_shown g);
      same = λ nobody. sym (only.none (sym only.lives ∙ nobody)) ∙ second;
      state = sym only.state ∙ ap full_arrive second;
    }
same_end g last final upcoming (x ∷ a) (y ∷ b) first second valid over too =
    let both = alike g last final upcoming x y a b first second in
    let kept = step_keeps_valid g both.o.state x valid (ap (option_map (λ (o : Outcome). o.state)) both.goes) in
    let more = same_end both.o.state last final both.there a b both.first both.second kept over too in
    record {
      works = ap (λ r. work_in (r ∷ a)) both.same ∙ ap (λ l. cond (is_work y) (y ∷ l) l) more.works;
      shown = shows g x both.o a both.goes ∙ ap (λ l. both.o.console ++ l) more.shown ∙ sym (shows g x both.o b both.goes) ∙ ap (λ r. console g (r ∷ b)) both.same;
      same = more.same;
      state = more.state;
    }

-- the console shows what the steps write
steps_show : (g : Plain) (r : Record) (o : Outcome) (rest steps : List Record) (b : Bool) → is_mark r ≡ b → outcome g r ≡ Some o → console o.state rest ≡ console o.state steps → console g (r ∷ rest) ≡ console g (cond (not b) (r ∷ steps) steps)
steps_show g r o rest steps false is goes later = shows g r o rest goes ∙ ap (λ l. o.console ++ l) later ∙ sym (shows g r o steps goes)
steps_show g r o rest steps true is goes later =
    let same : o ≡ quiet g = some_same o (quiet g) (sym goes ∙ mark_is_quiet g r is) in
    shows g r o rest goes ∙ ap (λ l. o.console ++ l) later ∙ ap (λ (x : Outcome). x.console ++ console x.state steps) same

shown_by_steps : (schedule : Schedule) (g : Plain) (at : Standing) (records : List Record) → each_is_due schedule g at records ≡ true → console g records ≡ console g (steps_in records)
shown_by_steps schedule g at [] order = refl
shown_by_steps schedule g at (r ∷ rest) order =
    let first = first_of schedule g at r rest order in
    steps_show g r first.o rest (steps_in rest) (is_mark r) refl first.goes (shown_by_steps schedule first.o.state (standing_after schedule g at r) rest first.later)

-- all work are steps
one_more_step : (r : Record) (steps works : List Record) (b : Bool) → is_mark r ≡ b → work_in steps ≡ works → work_in (cond (not b) (r ∷ steps) steps) ≡ cond (is_work r) (r ∷ works) works
one_more_step r steps works true is same = same ∙ sym (ap (λ w. cond w (r ∷ works) works) (idle_mark r is))
one_more_step r steps works false is same = ap (λ l. cond (is_work r) (r ∷ l) l) same

work_of_steps : (records : List Record) → work_in (steps_in records) ≡ work_in records
work_of_steps [] = refl
work_of_steps (r ∷ rest) = one_more_step r (steps_in rest) (work_in rest) (is_mark r) refl (work_of_steps rest)

pub one_end : OneEnd
one_end schedule other g last final a b none none_too valid first second runs also over too =
    let one = stripped schedule g (first_standing schedule) a none refl first in
    let two = stripped other g (first_standing other) b none_too refl second in
    let here : one.last ≡ last = some_same one.last last (sym one.runs ∙ runs) in
    let there : two.last ≡ final = some_same two.last final (sym two.runs ∙ also) in
    let same = same_end g last final NewRound (steps_in a) (steps_in b)
    (subst (λ h. Steps g NewRound (steps_in a) h) here one.steps)
    (subst (λ h. Steps g NewRound (steps_in b) h) there two.steps)
    valid over too in
    record {
      work = sym (work_of_steps a) ∙ same.works ∙ work_of_steps b;
      shown = shown_by_steps schedule g (first_standing schedule) a first ∙ same.shown ∙ sym (shown_by_steps other g (first_standing other) b second);
      same = same.same;
      state = same.state;
    }

-- where a run ended
abbrev pub EndsAt : LoopEnd → Plain → ℕ → ℕ → Type 0
EndsAt LoopDone last count room = ended last ≡ true
EndsAt LoopBudget last count room = (ended last ≡ false) × (count ≡ room)
EndsAt LoopStuck last count room = IsStuck last × (full_arrive last ≡ last) × (count < room)
EndsAt LoopSinkFault last count room = ⊥
EndsAt LoopMemory last count room = ⊥

is_stuck_lives : {A : Type 0} (g : Plain) → ended g ≡ true → IsStuck g → A
is_stuck_lives g over stuck = true_false (sym over ∙ ap not stuck.lives)

not_below : {A : Type 0} (count room : ℕ) → count ≡ room → count < room → A
not_below count room all some = absurd (omega arith)

one_kind : (first second : LoopEnd) (last : Plain) (count room : ℕ) → EndsAt first last count room → EndsAt second last count room → first ≡ second
one_kind LoopDone LoopDone last count room e f = refl
one_kind LoopDone LoopBudget last count room e f = true_false (sym e ∙ f.0)
one_kind LoopDone LoopStuck last count room e f = is_stuck_lives last e f.0
one_kind LoopBudget LoopDone last count room e f = true_false (sym f ∙ e.0)
one_kind LoopBudget LoopBudget last count room e f = refl
one_kind LoopBudget LoopStuck last count room e f = not_below count room e.1 f.2
one_kind LoopStuck LoopDone last count room e f = is_stuck_lives last f e.0
one_kind LoopStuck LoopBudget last count room e f = not_below count room f.1 e.2
one_kind LoopStuck LoopStuck last count room e f = refl
one_kind first LoopSinkFault last count room e f = absurd f
one_kind first LoopMemory last count room e f = absurd f
one_kind LoopSinkFault second last count room e f = absurd e
one_kind LoopMemory second last count room e f = absurd e

pub record EndedRun (end : LoopEnd) (schedule : Schedule) (g : Plain) (room : ℕ) (a : List Record) : Type 0 where
  pub last : Plain
  pub is : IsRun schedule g room a last
  pub order : GoesInRounds schedule g a
  pub there : EndsAt end last (length a) room

ended_run : (end : LoopEnd) (schedule : Schedule) (g : Plain) (room : ℕ) (a : List Record) (shown log : Sunk) → IsAnswer end → EndsRun end schedule g room a shown log → GoesInRounds schedule g a → EndedRun end schedule g room a
ended_run LoopDone schedule g room a shown log answer ends order = record { last = ends.0.shown.state; is = ends.0.shown.run; order = order; there = ends.0.nobody }
ended_run LoopBudget schedule g room a shown log answer ends order = record { last = ends.0.shown.state; is = ends.0.shown.run; order = order; there = (ends.0.somebody, ends.0.full) }
ended_run LoopStuck schedule g room a shown log answer ends order = record { last = ends.0.shown.state; is = ends.0.shown.run; order = order; there = (ends.0.stuck, ends.0.arrived, ends.0.roomy) }
ended_run LoopSinkFault schedule g room a shown log answer ends order = absurd answer
ended_run LoopMemory schedule g room a shown log answer ends order = absurd answer

ends_or_full : (end : LoopEnd) (last : Plain) (count room : ℕ) → EndsAt end last count room → ComesToEnd last ⊎ (count ≡ room)
ends_or_full LoopDone last count room there = inl (inl there)
ends_or_full LoopBudget last count room there = inr there.1
ends_or_full LoopStuck last count room there = inl (inr (there.0, there.1))
ends_or_full LoopSinkFault last count room there = absurd there
ends_or_full LoopMemory last count room there = absurd there

-- from the same place nothing is longer than what comes to an end
none_longer : (b : List Record) → length {A = Record} [] ≤ length b
none_longer b = grind arith

both_longer : (x y : Record) (a b : List Record) → length b ≤ length a → length (y ∷ b) ≤ length (x ∷ a)
both_longer x y a b less = grind arith

no_longer : (g last final : Plain) (upcoming : Upcoming) (a b : List Record) → Steps g upcoming a last → Steps g upcoming b final → IsValid last → ComesToEnd last → length b ≤ length a
no_longer g last final upcoming a [] first second valid ends = none_longer a
no_longer g last final upcoming [] (y ∷ b) first second valid ends =
    no_step g upcoming y second.0 (subst IsValid (sym first) valid) (subst ComesToEnd (sym first) ends) second.1 second.2 second.3
no_longer g last final upcoming (x ∷ a) (y ∷ b) first second valid ends =
    let both = alike g last final upcoming x y a b first second in
    both_longer x y a b (no_longer both.o.state last final both.there a b both.first both.second valid ends)

steps_so : (schedule : Schedule) (g last : Plain) (room : ℕ) (a : List Record) → schedule.every ≡ None → IsRun schedule g room a last → GoesInRounds schedule g a → Steps g NewRound a last
steps_so schedule g last room a none is order =
    let one = stripped schedule g (first_standing schedule) a none refl order in
    let here : one.last ≡ last = some_same one.last last (sym one.runs ∙ is.steps) in
    subst (λ l. Steps g NewRound l last) (steps_of_run schedule g last room a none is) (subst (λ h. Steps g NewRound (steps_in a) h) here one.steps)

no_longer_run : (schedule other : Schedule) (g last final : Plain) (room : ℕ) (a b : List Record) → IsValid g → schedule.every ≡ None → other.every ≡ None → IsRun schedule g room a last → IsRun other g room b final → GoesInRounds schedule g a → GoesInRounds other g b → ComesToEnd last ⊎ (length a ≡ room)
    → length b ≤ length a
no_longer_run schedule other g last final room a b valid none also first second order order_too (inl ends) =
    no_longer g last final NewRound a b (steps_so schedule g last room a none first order) (steps_so other g final room b also second order_too) (run_keeps_valid g last a valid first.steps) ends
no_longer_run schedule other g last final room a b valid none also first second order order_too (inr full) = subst (λ n. length b ≤ n) (sym full) second.fits

equal_lengths : (n m : ℕ) → n ≤ m → m ≤ n → n ≡ m
equal_lengths n m less more = omega arith

at_most_same : (n m : ℕ) → n ≡ m → m ≤ n
at_most_same n m same = omega arith

pub one_ended : (schedule other : Schedule) (g : Plain) (room : ℕ) (a b : List Record) (first second : LoopEnd) → IsValid g → schedule.every ≡ None → other.every ≡ None → EndedRun first schedule g room a → EndedRun second other g room b → (first ≡ second) × (a ≡ b)
one_ended schedule other g room a b first second valid none none_too one two =
    let fewer = no_longer_run schedule other g one.last two.last room a b valid none none_too one.is two.is one.order two.order (ends_or_full first one.last (length a) room one.there) in
    let no_fewer = no_longer_run other schedule g two.last one.last room b a valid none_too none two.is one.is two.order one.order (ends_or_full second two.last (length b) room two.there) in
    let count = equal_lengths (length a) (length b) no_fewer fewer in
    let same : a ≡ b = one_trace schedule other g one.last two.last room room a b none none_too one.is two.is one.order two.order no_fewer ∙ take_all (length a) b (at_most_same (length a) (length b) count) in
    let state : one.last ≡ two.last = some_same one.last two.last (sym one.is.steps ∙ ap (run g) same ∙ two.is.steps) in (
      one_kind first second two.last (length b) room (subst (λ h. EndsAt first h (length b) room) state (subst (λ n. EndsAt first one.last n room) count one.there)) two.there,
      same,
    )

pub one_ending : OneEnding
one_ending schedule other g room a b first second shown log also more valid none none_too answer answer_too ends ends_too order order_too =
    one_ended schedule other g room a b first second valid none none_too (ended_run first schedule g room a shown log answer ends order) (ended_run second other g room b also more answer_too ends_too order_too)

-- the rounds to an end are a run
pub run_to_end : (g : Plain) (room : ℕ) (records : List Record) → RunsToEnd g room records → EndedRun LoopDone no_checkpoints g room records
run_to_end g room records to =
    let reached = is_each_without_marks no_checkpoints g to.last records refl to.steps to.unmarked in
    let is : IsRun no_checkpoints g room records to.last = record { steps = to.steps; requests = reached.0; reaches = reached.1; fits = to.fits } in
    record { last = to.last; is = is; order = to.order; there = to.over }

ends_as : (schedule : Schedule) (g : Plain) (room : ℕ) (records trace : List Record) (end : LoopEnd) → IsValid g → schedule.every ≡ None → RunsToEnd g room records → EndedRun end schedule g room trace → (end ≡ LoopMemory) ⊎ ((end ≡ LoopDone) × (trace ≡ records))
ends_as schedule g room records trace end valid none to ended_too =
    let both = one_ended no_checkpoints schedule g room records trace LoopDone end valid refl none (run_to_end g room records to) ended_too in
    inr (sym both.0, sym both.1)

pub ends_so : EndsSo
ends_so schedule g room records trace LoopDone shown log valid none to ends order whole = ends_as schedule g room records trace LoopDone valid none to (ended_run LoopDone schedule g room trace shown log tt ends order)
ends_so schedule g room records trace LoopBudget shown log valid none to ends order whole = ends_as schedule g room records trace LoopBudget valid none to (ended_run LoopBudget schedule g room trace shown log tt ends order)
ends_so schedule g room records trace LoopStuck shown log valid none to ends order whole = ends_as schedule g room records trace LoopStuck valid none to (ended_run LoopStuck schedule g room trace shown log tt ends order)
ends_so schedule g room records trace LoopSinkFault shown log valid none to ends order whole = absurd (whole refl)
ends_so schedule g room records trace LoopMemory shown log valid none to ends order whole = inl refl

-- a call began as its run did
pub order_of : (session : Session) (begun : Begun session.given) → session.left.start ≡ Some (beginning begun) → CallGoesInRounds session → GoesInRounds (schedule_in begun) (origin begun) session.left.trace
order_of session begun start order = subst (λ (o : Option Beginning). IfSome o (λ b. GoesInRounds b.schedule b.state session.left.trace)) start order

-- words without `--every` make no requests
no_requests : (given : Given) (begun : Begun given) → NameNoEvery given.words → (schedule_in begun).every ≡ None
no_requests given (ByLaunch launched) names = names (Launch launched.asked.job) launched.asked.asks
no_requests given (ByRestart restarted) names = names (Restart restarted.asked.job) restarted.asked.asks

pub valid_origin : (given : Given) (begun : Begun given) → IsValid (origin begun)
valid_origin given (ByLaunch launched) = launched.valid
valid_origin given (ByRestart restarted) = restarted.valid

-- the run of a call that ended as done, from the state with which it began
record IsOver (session : Session) (g : Plain) : Type 0 where
  pub schedule : Schedule
  pub none : schedule.every ≡ None
  pub valid : IsValid g
  pub last : Plain
  pub order : GoesInRounds schedule g session.left.trace
  pub runs : run g session.left.trace ≡ Some last
  pub over : ended last ≡ true
  pub shown : Took session.left.console (console g session.left.trace)

is_over : (session : Session) (g : Plain) → NameNoEvery session.given.words → BeganWith session g → CameTo RanOut session → CallGoesInRounds session → IsOver session g
is_over session g names began is order =
    subst (IsOver session) (some_same (origin is.begun) g (sym (ap (option_map (λ (b : Beginning). b.state)) is.start) ∙ began)) (record {
      schedule = schedule_in is.begun;
      none = no_requests session.given is.begun names;
      valid = valid_origin session.given is.begun;
      last = is.run.shown.state;
      order = order_of session is.begun is.start order;
      runs = is.run.shown.run.steps;
      over = is.run.nobody;
      shown = is.run.shown.console;
    })

pub one_answer : OneAnswer
one_answer g a b log other names names_too began began_too ends ends_too order order_too =
    let one = is_over a g names began ends.reached.0 order in
    let two = is_over b g names_too began_too ends_too.reached.0 order_too in
    let same = one_end one.schedule two.schedule g one.last two.last a.left.trace b.left.trace one.none two.none one.valid one.order two.order one.runs two.runs (inl one.over) (inl two.over) in
    record { work = same.work; bytes = console g a.left.trace; first = one.shown; second = subst (Took b.left.console) (sym same.shown) two.shown }

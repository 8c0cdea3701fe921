-- How requests end: an outcome comes only where it may, an open request ends by one alone, and without marks one that is due stays open.
use Rattle.std.proofs.Common.{◌≡◌, ℕ, ◌+◌, ◌-◌, ◌^◌, ◌<◌, ◌≤◌, ◌%◌, Bool, true, false, cond, List, [], ◌∷◌, ◌++◌, refl, sym, ap, subst, inl, inr, ◌∙◌, arith, tests}
use Rattle.std.proofs.Math.Nat.{eq-or-lt_of_le, mod-eq_of_lt}
use Rattle.std.specs.Prelude.{Option, Some, All, ◌==◌, ◌&&◌, ◌||◌, ◌⊎◌, nat_lt}
use Rattle.std.specs.List.{count_by, list_any}
use Rattle.std.proofs.lemmas.Bool.{true≢false}
use Rattle.std.proofs.lemmas.List.Sums.{sum_by-cons}
use Rattle.std.proofs.lemmas.List.Elements.{All-head, All-tail}
use Rattle.sys_abi.specs.declared.record.Record.{Record}
use Rattle.sys_abi.specs.declared.record.Record.TheVariants.{User, Call, Deliver, Arrive, Cut, Drained, Refilled, Complete, Refused, Lapsed}
use Rattle.sys_abi.specs.declared.record.Cause.TheVariants.{Unsupported, DiskFault, Memory}
use Rattle.sys_abi.specs.declared.identity.VPid.{VPid}
use Rattle.plain_machine.specs.declared.plain.Plain.{Plain}
use Rattle.plain_machine.specs.Records.{step}
use Rattle.plain_machine.specs.Runs.{run}
use Rattle.plain_machine.specs.Tests.{is_work}
use Rattle.trace_log.specs.declared.requests.Schedule.{Schedule}
use Rattle.trace_log.specs.declared.requests.Tally.{Tally}
use Rattle.trace_log.specs.Requests.{Requests, Phase, NoRequest, Requested, AfterCut, RunsTo, LeadsTo, MayStand, MayStandIn, CanBeHeld, IsAnswered, first_requests, asks, is_mark, is_outcome, is_multiple_of, next_requests, phase_after, phase_after_work, tally_after}
use Rattle.trace_log.specs.RequestLaws.{OutcomesFit, FitsOutcome, OnlyLastIsOpen, StaysOpen}
use Rattle.trace_log.proofs.RequestFronts.{gives, parts, runs}
use Rattle.trace_log.proofs.RequestSteps.{mark_stays}
use Rattle.trace_log.proofs.RequestCounts.{is_between, AllBetween, IsSound, next_sound, cut_in, marks_between}

-- after a cut an image holds all that there is
IsHeld : Phase → Plain → Type 0
IsHeld NoRequest g = Unit {0}
IsHeld (Requested since) g = Unit {0}
IsHeld (AfterCut still) g = AllBetween still × CanBeHeld g

same_some : (g next : Plain) → Some g ≡ Some next → g ≡ next
same_some g next is = cc

same_state : (g next : Plain) (r : Record) → is_mark r ≡ true → step g r ≡ Some next → g ≡ next
same_state g next r marks goes = same_some g next (sym (mark_stays g r marks) ∙ goes)

held_after_work : (phase : Phase) (asked : Bool) (g next : Plain) (p : VPid) → ((still : List Record) → phase ≡ AfterCut still → ⊥) → IsHeld (phase_after_work phase asked p) next
unfolding IsHeld
held_after_work NoRequest true g next p none = tt
held_after_work NoRequest false g next p none = tt
held_after_work (Requested since) asked g next p none = tt
held_after_work (AfterCut still) asked g next p none = absurd (none still refl)

-- nothing but marks comes after a cut
no_work : (still : List Record) (g : Plain) (tally : Tally) (r : Record) → AllBetween still → is_mark r ≡ false → MayStandIn (AfterCut still) g tally r → ⊥
no_work [] g tally (User p t n) all plain may = may
no_work [] g tally (Call p t) all plain may = may
no_work [] g tally (Deliver p t s) all plain may = may
no_work [] g tally (Arrive dir n) all plain may = may
no_work [] g tally (Cut generation) all plain may = true≢false plain
no_work [] g tally (Drained dir n) all plain may = true≢false plain
no_work [] g tally (Refilled dir n) all plain may = true≢false plain
no_work [] g tally (Complete generation) all plain may = true≢false plain
no_work [] g tally (Refused cause) all plain may = true≢false plain
no_work [] g tally Lapsed all plain may = true≢false plain
no_work (mark ∷ still) g tally r all plain may = true≢false (sym (between_is_mark mark all.0) ∙ sym (ap is_mark may) ∙ plain)
  where
    between_is_mark : (x : Record) → is_between x ≡ true → is_mark x ≡ true
    between_is_mark (Drained dir n) between = refl
    between_is_mark (Refilled dir n) between = refl
    between_is_mark (User p t n) between = absurd (true≢false (sym between))
    between_is_mark (Call p t) between = absurd (true≢false (sym between))
    between_is_mark (Deliver p t s) between = absurd (true≢false (sym between))
    between_is_mark (Arrive dir n) between = absurd (true≢false (sym between))
    between_is_mark (Cut generation) between = refl
    between_is_mark (Complete generation) between = refl
    between_is_mark (Refused cause) between = refl
    between_is_mark Lapsed between = refl

held_after_mark : (phase : Phase) (g : Plain) → IsHeld phase g → IsHeld (phase_after phase false g Lapsed) g
unfolding IsHeld
held_after_mark NoRequest g held = tt
held_after_mark (Requested since) g held = tt
held_after_mark (AfterCut []) g held = tt
held_after_mark (AfterCut (mark ∷ still)) g held = (held.0.1, held.1)

held_after : (phase : Phase) (asked : Bool) (g next : Plain) (tally : Tally) (r : Record) → IsHeld phase g → IsSound phase → MayStandIn phase g tally r → step g r ≡ Some next → IsHeld (phase_after phase asked g r) next
unfolding IsHeld
held_after phase asked g next tally (User p t n) held sound may goes = held_after_work phase asked g next p (λ still is. no_work still g tally (User p t n) (subst IsSound is sound) refl (subst (λ (q : Phase). MayStandIn q g tally (User p t n)) is may))
held_after phase asked g next tally (Call p t) held sound may goes = held_after_work phase asked g next p (λ still is. no_work still g tally (Call p t) (subst IsSound is sound) refl (subst (λ (q : Phase). MayStandIn q g tally (Call p t)) is may))
held_after phase asked g next tally (Deliver p t s) held sound may goes = held_after_work phase asked g next p (λ still is. no_work still g tally (Deliver p t s) (subst IsSound is sound) refl (subst (λ (q : Phase). MayStandIn q g tally (Deliver p t s)) is may))
held_after NoRequest asked g next tally (Arrive dir n) held sound may goes = tt
held_after (Requested since) asked g next tally (Arrive dir n) held sound may goes = tt
held_after (AfterCut still) asked g next tally (Arrive dir n) held sound may goes = absurd (no_work still g tally (Arrive dir n) sound refl may)
held_after phase asked g next tally (Cut generation) held sound may goes = (marks_between g, subst CanBeHeld (same_state g next (Cut generation) refl goes) (cut_in phase g tally generation sound may).held)
held_after phase asked g next tally (Drained dir n) held sound may goes = subst (IsHeld (phase_after phase false g Lapsed)) (same_state g next (Drained dir n) refl goes) (held_after_mark phase g held)
held_after phase asked g next tally (Refilled dir n) held sound may goes = subst (IsHeld (phase_after phase false g Lapsed)) (same_state g next (Refilled dir n) refl goes) (held_after_mark phase g held)
held_after phase asked g next tally (Complete generation) held sound may goes = subst (IsHeld (phase_after phase false g Lapsed)) (same_state g next (Complete generation) refl goes) (held_after_mark phase g held)
held_after phase asked g next tally (Refused cause) held sound may goes = subst (IsHeld (phase_after phase false g Lapsed)) (same_state g next (Refused cause) refl goes) (held_after_mark phase g held)
held_after phase asked g next tally Lapsed held sound may goes = subst (IsHeld (phase_after phase false g Lapsed)) (same_state g next Lapsed refl goes) (held_after_mark phase g held)

-- along a trace
record Stays (g : Plain) (now : Requests) : Type 0 where
  pub sound : IsSound now.phase
  pub held : IsHeld now.phase g

stays : (schedule : Schedule) (g last : Plain) (now later : Requests) (trace : List Record) → Stays g now → LeadsTo schedule g now trace last later → Stays last later
unfolding LeadsTo MayStand next_requests
stays schedule g last now later [] so whole = subst (λ n. Stays last n) whole.1 (subst (λ h. Stays h now) whole.0 so)
stays schedule g last now later (r ∷ rest) so whole =
    let first = gives (step g r) (λ next. LeadsTo schedule next (next_requests schedule g now r) rest last later) whole.1 in
    stays schedule first.value last (next_requests schedule g now r) later rest (record {
      sound = next_sound schedule g now r so.sound;
      held = held_after now.phase (asks schedule (tally_after now.tally r)) g first.value now.tally r so.held so.sound whole.0 first.is;
    }) first.holds

-- an outcome among the marks that must come
no_outcome_between : (mark : Record) → is_between mark ≡ true → is_outcome mark ≡ false
no_outcome_between (Drained dir n) between = refl
no_outcome_between (Refilled dir n) between = refl
no_outcome_between (User p t n) between = refl
no_outcome_between (Call p t) between = refl
no_outcome_between (Deliver p t s) between = refl
no_outcome_between (Arrive dir n) between = refl
no_outcome_between (Cut generation) between = refl
no_outcome_between (Complete generation) between = absurd (true≢false (sym between))
no_outcome_between (Refused cause) between = absurd (true≢false (sym between))
no_outcome_between Lapsed between = absurd (true≢false (sym between))

fits : (phase : Phase) (g : Plain) (tally : Tally) (r : Record) → IsSound phase → IsHeld phase g → MayStandIn phase g tally r → FitsOutcome g r
unfolding IsHeld
fits phase g tally (User p t n) sound held may = tt
fits phase g tally (Call p t) sound held may = tt
fits phase g tally (Deliver p t s) sound held may = tt
fits phase g tally (Arrive dir n) sound held may = tt
fits phase g tally (Cut generation) sound held may = tt
fits phase g tally (Drained dir n) sound held may = tt
fits phase g tally (Refilled dir n) sound held may = tt
fits phase g tally (Complete generation) sound held may = tt
fits NoRequest g tally (Refused cause) sound held may = absurd (true≢false may)
fits NoRequest g tally Lapsed sound held may = absurd (true≢false may)
fits (Requested since) g tally (Refused (Unsupported p fd kind)) sound held may = may
fits (Requested since) g tally (Refused DiskFault) sound held may = may
fits (Requested since) g tally (Refused Memory) sound held may = may
fits (Requested since) g tally Lapsed sound held may = may
fits (AfterCut []) g tally (Refused (Unsupported p fd kind)) sound held may = absurd may
fits (AfterCut []) g tally (Refused DiskFault) sound held may = held.1
fits (AfterCut []) g tally (Refused Memory) sound held may = held.1
fits (AfterCut []) g tally Lapsed sound held may = absurd may
fits (AfterCut (mark ∷ still)) g tally (Refused cause) sound held may = absurd (true≢false (ap is_outcome may ∙ no_outcome_between mark sound.0))
fits (AfterCut (mark ∷ still)) g tally Lapsed sound held may = absurd (true≢false (ap is_outcome may ∙ no_outcome_between mark sound.0))

one_state : (g h : Plain) (o : Option Plain) → o ≡ Some g → o ≡ Some h → g ≡ h
one_state g h o first second = cc

first_may : (schedule : Schedule) (g last : Plain) (now later : Requests) (r : Record) (rest : List Record) → LeadsTo schedule g now (r ∷ rest) last later → MayStandIn now.phase g now.tally r
unfolding LeadsTo MayStand
first_may schedule g last now later r rest whole = whole.0

pub outcomes_fit : OutcomesFit
unfolding IsHeld
outcomes_fit schedule start last g later trace r whole at =
    let both = parts schedule start last (first_requests schedule) later at.front (r ∷ at.rest) (subst (λ t. RunsTo schedule start t last later) at.whole whole) in
    let so = stays schedule start both.state (first_requests schedule) both.requests at.front (record { sound = tt; held = tt }) both.begins in
    let same = one_state both.state g (run start at.front) (runs schedule start both.state (first_requests schedule) both.requests at.front both.begins) at.there in
    subst (λ h. FitsOutcome h r) same (fits both.requests.phase both.state both.requests.tally r so.sound so.held (first_may schedule both.state last both.requests later r at.rest both.ends))

-- a trace leads to one place
record OnePlace (g h : Plain) (now later : Requests) : Type 0 where
  pub state : g ≡ h
  pub requests : now ≡ later

one_place : (schedule : Schedule) (g last final : Plain) (now later other : Requests) (trace : List Record) → LeadsTo schedule g now trace last later → LeadsTo schedule g now trace final other → OnePlace last final later other
unfolding LeadsTo
one_place schedule g last final now later other [] first second = record { state = sym first.0 ∙ second.0; requests = sym first.1 ∙ second.1 }
one_place schedule g last final now later other (r ∷ rest) first second =
    let one = gives (step g r) (λ next. LeadsTo schedule next (next_requests schedule g now r) rest last later) first.1 in
    let two = gives (step g r) (λ next. LeadsTo schedule next (next_requests schedule g now r) rest final other) second.1 in
    let same = one_state two.value one.value (step g r) two.is one.is in
    one_place schedule one.value last final (next_requests schedule g now r) later other rest one.holds (subst (λ h. LeadsTo schedule h (next_requests schedule g now r) rest final other) same two.holds)

-- an open request ends by an outcome alone
IsOpen : Phase → Type 0
IsOpen NoRequest = ⊥
IsOpen _ = Unit {0}

-- whatever else comes leaves it open
open_after : (phase : Phase) (g : Plain) (tally : Tally) (r : Record) → IsOpen phase → is_outcome r ≡ false → MayStandIn phase g tally r → IsOpen (phase_after phase false g r)
unfolding IsOpen
open_after (Requested since) g tally (User p t n) goes none may = tt
open_after (Requested since) g tally (Call p t) goes none may = tt
open_after (Requested since) g tally (Deliver p t s) goes none may = tt
open_after (Requested since) g tally (Arrive dir n) goes none may = tt
open_after (Requested since) g tally (Cut generation) goes none may = tt
open_after (Requested since) g tally (Drained dir n) goes none may = absurd may
open_after (Requested since) g tally (Refilled dir n) goes none may = absurd may
open_after (Requested since) g tally (Complete generation) goes none may = absurd may
open_after (Requested since) g tally (Refused cause) goes none may = absurd (true≢false none)
open_after (Requested since) g tally Lapsed goes none may = absurd (true≢false none)
open_after (AfterCut still) g tally (User p t n) goes none may = tt
open_after (AfterCut still) g tally (Call p t) goes none may = tt
open_after (AfterCut still) g tally (Deliver p t s) goes none may = tt
open_after (AfterCut still) g tally (Arrive dir n) goes none may = tt
open_after (AfterCut still) g tally (Cut generation) goes none may = tt
open_after (AfterCut []) g tally (Drained dir n) goes none may = absurd may
open_after (AfterCut []) g tally (Refilled dir n) goes none may = absurd may
open_after (AfterCut (mark ∷ still)) g tally (Drained dir n) goes none may = tt
open_after (AfterCut (mark ∷ still)) g tally (Refilled dir n) goes none may = tt
open_after (AfterCut still) g tally (Complete generation) goes none may = absurd (true≢false none)
open_after (AfterCut still) g tally (Refused cause) goes none may = absurd (true≢false none)
open_after (AfterCut still) g tally Lapsed goes none may = absurd (true≢false none)
open_after NoRequest g tally r goes none may = absurd goes

asked_alike : (phase : Phase) (asked : Bool) (g : Plain) (r : Record) → IsOpen phase → phase_after phase asked g r ≡ phase_after phase false g r
unfolding IsOpen
asked_alike NoRequest asked g r goes = absurd goes
asked_alike (Requested since) asked g (User p t n) goes = refl
asked_alike (Requested since) asked g (Call p t) goes = refl
asked_alike (Requested since) asked g (Deliver p t s) goes = refl
asked_alike (Requested since) asked g (Arrive dir n) goes = refl
asked_alike (Requested since) asked g (Cut generation) goes = refl
asked_alike (Requested since) asked g (Drained dir n) goes = refl
asked_alike (Requested since) asked g (Refilled dir n) goes = refl
asked_alike (Requested since) asked g (Complete generation) goes = refl
asked_alike (Requested since) asked g (Refused cause) goes = refl
asked_alike (Requested since) asked g Lapsed goes = refl
asked_alike (AfterCut still) asked g (User p t n) goes = refl
asked_alike (AfterCut still) asked g (Call p t) goes = refl
asked_alike (AfterCut still) asked g (Deliver p t s) goes = refl
asked_alike (AfterCut still) asked g (Arrive dir n) goes = refl
asked_alike (AfterCut still) asked g (Cut generation) goes = refl
asked_alike (AfterCut still) asked g (Drained dir n) goes = refl
asked_alike (AfterCut still) asked g (Refilled dir n) goes = refl
asked_alike (AfterCut still) asked g (Complete generation) goes = refl
asked_alike (AfterCut still) asked g (Refused cause) goes = refl
asked_alike (AfterCut still) asked g Lapsed goes = refl

stays_so : (schedule : Schedule) (g last : Plain) (now later : Requests) (trace : List Record) → IsOpen now.phase → LeadsTo schedule g now trace last later → list_any is_outcome trace ≡ false → IsOpen later.phase
unfolding LeadsTo MayStand next_requests
stays_so schedule g last now later [] goes whole none = subst (λ n. IsOpen n.phase) whole.1 goes
stays_so schedule g last now later (r ∷ rest) goes whole none =
    let first = gives (step g r) (λ next. LeadsTo schedule next (next_requests schedule g now r) rest last later) whole.1 in
    stays_so schedule first.value last (next_requests schedule g now r) later rest
    (subst IsOpen (sym (asked_alike now.phase (asks schedule (tally_after now.tally r)) g r goes)) (open_after now.phase g now.tally r goes (neither_first (is_outcome r) (list_any is_outcome rest) none) whole.0))
    first.holds (neither_second (is_outcome r) (list_any is_outcome rest) none)
  where
    neither_first : (a b : Bool) → (a || b) ≡ false → a ≡ false
    neither_first false b none = refl
    neither_first true b none = none

    neither_second : (a b : Bool) → (a || b) ≡ false → b ≡ false
    neither_second false b none = none
    neither_second true b none = absurd (true≢false none)

ends_by_outcome : (schedule : Schedule) (g last : Plain) (now later : Requests) (trace : List Record) → IsOpen now.phase → LeadsTo schedule g now trace last later → IsAnswered later → list_any is_outcome trace ≡ true
unfolding IsOpen
ends_by_outcome schedule g last now later trace goes whole answered = by (list_any is_outcome trace) refl
  where
    by : (b : Bool) → list_any is_outcome trace ≡ b → list_any is_outcome trace ≡ true
    by true is = is
    by false is = absurd (subst IsOpen answered (stays_so schedule g last now later trace goes whole is))

joined : (front mid : List Record) (r : Record) → front ++ r ∷ mid ≡ (front ++ r ∷ []) ++ mid
joined [] mid r = refl
joined (x ∷ front) mid r = ap (λ l. x ∷ l) (joined front mid r)

-- the first of the records, and where the rest begins
record First (schedule : Schedule) (g : Plain) (now : Requests) (r : Record) (rest : List Record) (last : Plain) (later : Requests) : Type 0 where
  pub next : Plain
  pub leads : LeadsTo schedule next (next_requests schedule g now r) rest last later

first_of : (schedule : Schedule) (g last : Plain) (now later : Requests) (r : Record) (rest : List Record) → LeadsTo schedule g now (r ∷ rest) last later → First schedule g now r rest last later
unfolding LeadsTo
first_of schedule g last now later r rest whole =
    let first = gives (step g r) (λ next. LeadsTo schedule next (next_requests schedule g now r) rest last later) whole.1 in
    record { next = first.value; leads = first.holds }

pub only_last_is_open : OnlyLastIsOpen
unfolding IsOpen
only_last_is_open schedule start last later front mid rest r s whole makes again =
    let both = parts schedule start again.state (first_requests schedule) again.requests front (r ∷ mid) again.reaches in
    let place = one_place schedule start both.state makes.state (first_requests schedule) both.requests makes.requests front both.begins makes.reaches in
    let first = first_of schedule both.state again.state both.requests again.requests r mid both.ends in
    let made : (next_requests schedule both.state both.requests r).phase ≡ Requested [] =
    ap (λ h. (next_requests schedule h both.requests r).phase) place.state ∙ ap (λ n. (next_requests schedule makes.state n r).phase) place.requests ∙ makes.made in
    ends_by_outcome schedule first.next again.state (next_requests schedule both.state both.requests r) again.requests mid (subst IsOpen (sym made) tt) first.leads again.answered

-- without marks: a request waits once there are as many work records
still_waits : (since : List VPid) (asked : Bool) (g : Plain) (r : Record) → is_mark r ≡ false → (more : List VPid) × (phase_after (Requested since) asked g r ≡ Requested more)
still_waits since asked g (User p t n) plain = (p ∷ since, refl)
still_waits since asked g (Call p t) plain = (p ∷ since, refl)
still_waits since asked g (Deliver p t s) plain = (p ∷ since, refl)
still_waits since asked g (Arrive dir n) plain = (since, refl)
still_waits since asked g (Cut generation) plain = absurd (true≢false plain)
still_waits since asked g (Drained dir n) plain = absurd (true≢false plain)
still_waits since asked g (Refilled dir n) plain = absurd (true≢false plain)
still_waits since asked g (Complete generation) plain = absurd (true≢false plain)
still_waits since asked g (Refused cause) plain = absurd (true≢false plain)
still_waits since asked g Lapsed plain = absurd (true≢false plain)

waits_on : (schedule : Schedule) (g last : Plain) (now later : Requests) (since : List VPid) (trace : List Record) → now.phase ≡ Requested since → LeadsTo schedule g now trace last later → All (λ r. is_mark r ≡ false) trace → (more : List VPid) × (later.phase ≡ Requested more)
unfolding LeadsTo next_requests
waits_on schedule g last now later since [] waits whole plain = (since, sym (ap (λ (n : Requests). n.phase) whole.1) ∙ waits)
waits_on schedule g last now later since (r ∷ rest) waits whole plain =
    let first = gives (step g r) (λ next. LeadsTo schedule next (next_requests schedule g now r) rest last later) whole.1 in
    let more = still_waits since (asks schedule (tally_after now.tally r)) g r (All-head (λ x. is_mark x ≡ false) r rest plain) in
    waits_on schedule first.value last (next_requests schedule g now r) later more.0 rest
    (ap (λ phase. phase_after phase (asks schedule (tally_after now.tally r)) g r) waits ∙ more.1) first.holds (All-tail (λ x. is_mark x ≡ false) r rest plain)

-- what a record that is no mark does while no request is open
after_plain : (asked : Bool) (g : Plain) (r : Record) → is_mark r ≡ false → phase_after NoRequest asked g r ≡ cond (is_work r && asked) (Requested []) NoRequest
after_plain true g (User p t n) plain = refl
after_plain false g (User p t n) plain = refl
after_plain true g (Call p t) plain = refl
after_plain false g (Call p t) plain = refl
after_plain true g (Deliver p t s) plain = refl
after_plain false g (Deliver p t s) plain = refl
after_plain asked g (Arrive dir n) plain = refl
after_plain asked g (Cut generation) plain = absurd (true≢false plain)
after_plain asked g (Drained dir n) plain = absurd (true≢false plain)
after_plain asked g (Refilled dir n) plain = absurd (true≢false plain)
after_plain asked g (Complete generation) plain = absurd (true≢false plain)
after_plain asked g (Refused cause) plain = absurd (true≢false plain)
after_plain asked g Lapsed plain = absurd (true≢false plain)

tally_plain : (tally : Tally) (r : Record) → is_mark r ≡ false → ((tally_after tally r).work ≡ tally.work + cond (is_work r) 1 0) × ((tally_after tally r).greatest ≡ tally.greatest)
unfolding tally_after
tally_plain tally (User p t n) plain = (refl, refl)
tally_plain tally (Call p t) plain = (refl, refl)
tally_plain tally (Deliver p t s) plain = (refl, refl)
tally_plain tally (Arrive dir n) plain = (omega arith, refl)
tally_plain tally (Cut generation) plain = absurd (true≢false plain)
tally_plain tally (Drained dir n) plain = absurd (true≢false plain)
tally_plain tally (Refilled dir n) plain = absurd (true≢false plain)
tally_plain tally (Complete generation) plain = absurd (true≢false plain)
tally_plain tally (Refused cause) plain = absurd (true≢false plain)
tally_plain tally Lapsed plain = absurd (true≢false plain)

asks_at : (schedule : Schedule) (tally : Tally) (every : ℕ) → schedule.every ≡ Some every → 0 < every → tally.work ≡ every → tally.greatest < 2 ^ 64 - 2 → asks schedule tally ≡ true
unfolding asks
asks_at schedule tally every is some full below =
    ap (λ o. is_multiple_of o tally.work && nat_lt tally.greatest (2 ^ 64 - 2)) is ∙ ap (λ n. (n % every == 0) && nat_lt tally.greatest (2 ^ 64 - 2)) full ∙ both every tally.greatest some below
  where
    both : (n greatest : ℕ) → 0 < n → greatest < 2 ^ 64 - 2 → ((n % n == 0) && nat_lt greatest (2 ^ 64 - 2)) ≡ true
    both n greatest some below = grind (arith, tests)

asks_not : (schedule : Schedule) (tally : Tally) (every : ℕ) → schedule.every ≡ Some every → 0 < tally.work → tally.work < every → asks schedule tally ≡ false
unfolding asks
asks_not schedule tally every is some fewer = ap (λ o. is_multiple_of o tally.work && nat_lt tally.greatest (2 ^ 64 - 2)) is ∙ one tally.work every (nat_lt tally.greatest (2 ^ 64 - 2)) some fewer
  where
    not_none : (n : ℕ) (b : Bool) → 0 < n → ((n == 0) && b) ≡ false
    not_none n true some = grind (arith, tests)
    not_none n false some = grind (arith, tests)

    one : (n k : ℕ) (b : Bool) → 0 < n → n < k → ((n % k == 0) && b) ≡ false
    one n k b some fewer = ap (λ r. (r == 0) && b) (mod-eq_of_lt fewer) ∙ not_none n b some

-- after a record that is no mark, while no request is open
record Plainly (schedule : Schedule) (g : Plain) (now : Requests) (r : Record) : Type 0 where
  pub phase : (next_requests schedule g now r).phase ≡ cond (is_work r && asks schedule (next_requests schedule g now r).tally) (Requested []) NoRequest
  pub work : (next_requests schedule g now r).tally.work ≡ now.tally.work + cond (is_work r) 1 0
  pub greatest : (next_requests schedule g now r).tally.greatest ≡ now.tally.greatest

plainly : (schedule : Schedule) (g : Plain) (now : Requests) (r : Record) → now.phase ≡ NoRequest → is_mark r ≡ false → Plainly schedule g now r
unfolding next_requests
plainly schedule g now r free plain =
    let counted = tally_plain now.tally r plain in
    record {
      phase = ap (λ phase. phase_after phase (asks schedule (tally_after now.tally r)) g r) free ∙ after_plain (asks schedule (tally_after now.tally r)) g r plain;
      work = counted.0;
      greatest = counted.1;
    }

count_more : (r : Record) (rest : List Record) → count_by is_work (r ∷ rest) ≡ cond (is_work r) 1 0 + count_by is_work rest
count_more r rest = sum_by-cons (λ x. cond (is_work x) 1 0) r rest

clash : {A : Type 0} (later : Requests) (more : List VPid) → later.phase ≡ Requested more → IsAnswered later → A
clash later more waits answered = absurd (cc)

no_more : {A : Type 0} (n every : ℕ) → n < every → every ≤ n + 0 → A
no_more n every fewer enough = absurd (omega arith)

full_or_less : (n every : ℕ) → n < every → (n + 1 ≡ every) ⊎ (n + 1 < every)
full_or_less n every fewer = eq-or-lt_of_le (omega arith)

moved_on : (every a b c d : ℕ) → every ≤ a + d → d ≡ b + c → every ≤ (a + b) + c
moved_on every a b c d enough is = omega arith

module _ (schedule : Schedule) (every : ℕ) (is : schedule.every ≡ Some every) (some : 0 < every) where
  unanswered : (g last : Plain) (now later : Requests) (trace : List Record) → now.phase ≡ NoRequest → now.tally.work < every → now.tally.greatest < 2 ^ 64 - 2 → LeadsTo schedule g now trace last later
      → every ≤ now.tally.work + count_by is_work trace → All (λ r. is_mark r ≡ false) trace → IsAnswered later → ⊥
  unanswered g last now later [] free fewer below whole enough plain answered = no_more now.tally.work every fewer enough
  unanswered g last now later (r ∷ rest) free fewer below whole enough plain answered =
      let first = first_of schedule g last now later r rest whole in
      let next = next_requests schedule g now r in
      let after = plainly schedule g now r free (All-head (λ x. is_mark x ≡ false) r rest plain) in
      let left = All-tail (λ x. is_mark x ≡ false) r rest plain in
      let bound : next.tally.greatest < 2 ^ 64 - 2 = subst (λ n. n < 2 ^ 64 - 2) (sym after.greatest) below in
      let counts : every ≤ next.tally.work + count_by is_work rest =
      subst (λ n. every ≤ n + count_by is_work rest) (sym after.work) (moved_on every now.tally.work (cond (is_work r) 1 0) (count_by is_work rest) (count_by is_work (r ∷ rest)) enough (count_more r rest)) in
      let on : next.phase ≡ NoRequest → next.tally.work < every → ⊥ = λ free fewer. unanswered first.next last next later rest free fewer bound first.leads counts left answered in
      by first after left bound on (is_work r) refl (full_or_less now.tally.work every fewer)
    where
      by : First schedule g now r rest last later → Plainly schedule g now r → All (λ x. is_mark x ≡ false) rest → (next_requests schedule g now r).tally.greatest < 2 ^ 64 - 2
          → ((next_requests schedule g now r).phase ≡ NoRequest → (next_requests schedule g now r).tally.work < every → ⊥) → (work : Bool) → is_work r ≡ work → (now.tally.work + 1 ≡ every) ⊎ (now.tally.work + 1 < every) → ⊥
      by first after left bound on false idle either =
          on
          (after.phase ∙ ap (λ b. cond (b && asks schedule (next_requests schedule g now r).tally) (Requested []) NoRequest) idle)
          (let same : (next_requests schedule g now r).tally.work ≡ now.tally.work + 0 = after.work ∙ ap (λ b. now.tally.work + cond b 1 0) idle in omega arith)
      by first after left bound on true work (inl full) =
          let counted : (next_requests schedule g now r).tally.work ≡ every = after.work ∙ ap (λ b. now.tally.work + cond b 1 0) work ∙ full in
          let asked = asks_at schedule (next_requests schedule g now r).tally every is some counted bound in
          let waits : (next_requests schedule g now r).phase ≡ Requested [] =
          after.phase ∙ ap (λ b. cond (b && asks schedule (next_requests schedule g now r).tally) (Requested []) NoRequest) work ∙ ap (λ b. cond b (Requested []) NoRequest) asked in
          let there = waits_on schedule first.next last (next_requests schedule g now r) later [] rest waits first.leads left in
          clash later there.0 there.1 answered
      by first after left bound on true work (inr less) =
          let counted : (next_requests schedule g now r).tally.work ≡ now.tally.work + 1 = after.work ∙ ap (λ b. now.tally.work + cond b 1 0) work in
          let asked = asks_not schedule (next_requests schedule g now r).tally every is (omega arith) (omega arith) in
          on
          (after.phase ∙ ap (λ b. cond (b && asks schedule (next_requests schedule g now r).tally) (Requested []) NoRequest) work ∙ ap (λ b. cond b (Requested []) NoRequest) asked)
          (omega arith)

from_none : (every n : ℕ) → every ≤ n → every ≤ 0 + n
from_none every n enough = omega arith

pub stays_open : StaysOpen
stays_open schedule start last later trace every whole is some below enough plain answered =
    unanswered schedule every is some start last (first_requests schedule) later trace refl some below whole (from_none every (count_by is_work trace) enough) plain answered

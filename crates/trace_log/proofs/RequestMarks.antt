-- Without `every` no request is made: the traces are the runs without a mark.
use Rattle.std.proofs.Common.{◌≡◌, false, List, [], ◌∷◌, refl, sym, ap, subst, ◌∙◌, ◌&&◌}
use Rattle.std.specs.Prelude.{Option, Some, None, All, option_and_then, nat_lt, ◌^◌, ◌-◌}
use Rattle.std.proofs.lemmas.List.Elements.{All-cons, All-nil, All-head, All-tail}
use Rattle.sys_abi.specs.declared.record.Record.{Record}
use Rattle.sys_abi.specs.declared.record.Record.TheVariants.{User, Call, Deliver, Arrive, Cut, Drained, Refilled, Complete, Refused, Lapsed}
use Rattle.plain_machine.specs.declared.plain.Plain.{Plain}
use Rattle.plain_machine.specs.Records.{step}
use Rattle.plain_machine.specs.Runs.{run}
use Rattle.trace_log.specs.declared.requests.Schedule.{Schedule}
use Rattle.trace_log.specs.declared.requests.Tally.{Tally}
use Rattle.trace_log.specs.Requests.{Requests, NoRequest, LeadsTo, MayStand, MayStandIn, IsAnswered, first_requests, next_requests, phase_after, tally_after, asks, is_mark, is_multiple_of}
use Rattle.trace_log.specs.RequestLaws.{HasNoMarks, IsEachWithoutMarks}
use Rattle.trace_log.proofs.RequestFronts.{Gives, gives, given}

never_asks : (schedule : Schedule) (tally : Tally) → schedule.every ≡ None → asks schedule tally ≡ false
unfolding asks
never_asks schedule tally none = ap (λ every. is_multiple_of every tally.work && nat_lt tally.greatest (2 ^ 64 - 2)) none

still_none : (g : Plain) (r : Record) → is_mark r ≡ false → phase_after NoRequest false g r ≡ NoRequest
still_none g (User p t n) plain = refl
still_none g (Call p t) plain = refl
still_none g (Deliver p t s) plain = refl
still_none g (Arrive dir n) plain = refl
still_none g (Cut generation) plain = cc
still_none g (Drained dir n) plain = cc
still_none g (Refilled dir n) plain = cc
still_none g (Complete generation) plain = cc
still_none g (Refused cause) plain = cc
still_none g Lapsed plain = cc

no_request_after : (schedule : Schedule) (g : Plain) (now : Requests) (r : Record) → schedule.every ≡ None → IsAnswered now → is_mark r ≡ false → IsAnswered (next_requests schedule g now r)
unfolding next_requests
no_request_after schedule g now r none answered plain =
    ap (λ phase. phase_after phase (asks schedule (tally_after now.tally r)) g r) answered
    ∙ ap (λ asked. phase_after NoRequest asked g r) (never_asks schedule (tally_after now.tally r) none)
    ∙ still_none g r plain

is_no_mark : (g : Plain) (now : Requests) (r : Record) → IsAnswered now → MayStand g now r → is_mark r ≡ false
unfolding MayStand
is_no_mark g now r answered may = subst (λ phase. MayStandIn phase g now.tally r) answered may

no_marks : (schedule : Schedule) (g last : Plain) (now later : Requests) (trace : List Record) → schedule.every ≡ None → IsAnswered now → LeadsTo schedule g now trace last later → All (λ r. is_mark r ≡ false) trace × IsAnswered later
unfolding LeadsTo
no_marks schedule g last now later [] none answered whole = (All-nil (λ r. is_mark r ≡ false), subst IsAnswered whole.1 answered)
no_marks schedule g last now later (r ∷ rest) none answered whole =
    let first = gives (step g r) (λ next. LeadsTo schedule next (next_requests schedule g now r) rest last later) whole.1 in
    let plain = is_no_mark g now r answered whole.0 in
    let more = no_marks schedule first.value last (next_requests schedule g now r) later rest none (no_request_after schedule g now r none answered plain) first.holds in
    (All-cons (λ x. is_mark x ≡ false) r rest plain more.0, more.1)

pub has_no_marks : HasNoMarks
has_no_marks schedule start last later trace none whole = no_marks schedule start last (first_requests schedule) later trace none refl whole

may_stand : (g : Plain) (now : Requests) (r : Record) → IsAnswered now → is_mark r ≡ false → MayStand g now r
unfolding MayStand
may_stand g now r answered plain = subst (λ phase. MayStandIn phase g now.tally r) (sym answered) plain

some_then : {A B : Type 0} (o : Option A) (f : A → Option B) (b : B) → option_and_then f o ≡ Some b → Gives o (λ a. f a ≡ Some b)
some_then None f b e = absurd (subst (λ x. IsSome x) (sym e) tt)
  where
    IsSome : {T : Type 0} → Option T → Type 0
    IsSome None = ⊥
    IsSome (Some x) = Unit {0}
some_then (Some a) f b e = record { value = a; is = refl; holds = e }

without_marks : (schedule : Schedule) (g last : Plain) (now : Requests) (trace : List Record) → schedule.every ≡ None → IsAnswered now → run g trace ≡ Some last → All (λ r. is_mark r ≡ false) trace →
    (later : Requests) × LeadsTo schedule g now trace last later
unfolding LeadsTo run
without_marks schedule g last now [] none answered goes plain = (now, (ap (λ o. unwrap o g) goes, refl))
  where
    unwrap : Option Plain → Plain → Plain
    unwrap None d = d
    unwrap (Some x) d = x
without_marks schedule g last now (r ∷ rest) none answered goes plain =
    let first = some_then (step g r) (λ next. run next rest) last goes in
    let here = All-head (λ x. is_mark x ≡ false) r rest plain in
    let more = without_marks schedule first.value last (next_requests schedule g now r) rest none (no_request_after schedule g now r none answered here) first.holds (All-tail (λ x. is_mark x ≡ false) r rest plain) in
    (more.0, (may_stand g now r answered here, given (step g r) first.value (λ next. LeadsTo schedule next (next_requests schedule g now r) rest last more.0) first.is more.1))

pub is_each_without_marks : IsEachWithoutMarks
is_each_without_marks schedule start last trace none goes plain = without_marks schedule start last (first_requests schedule) trace none refl goes plain

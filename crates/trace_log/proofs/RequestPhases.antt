-- The phases of a request: when it is made, what each process may still do, and what follows its cut.
use Rattle.std.proofs.Common.{◌≡◌, ℕ, ◌+◌, ◌-◌, ◌^◌, ◌<◌, ◌≤◌, Bool, true, false, List, [], ◌∷◌, length, refl, sym, ap, subst, inl, inr, ◌∙◌, arith, ◌&&◌}
use Rattle.std.specs.Prelude.{Option, Some, ◌⊎◌, ◌==◌, nat_lt, filter, unwrap_or, if◌then◌else◌}
use Rattle.std.specs.List.{count_by}
use Rattle.std.proofs.lemmas.Bool.{true≢false, eqb-true}
use Rattle.sys_abi.specs.declared.record.Record.{Record}
use Rattle.sys_abi.specs.declared.record.Record.TheVariants.{User, Call, Deliver, Arrive, Cut, Drained, Refilled, Complete, Refused, Lapsed}
use Rattle.sys_abi.specs.declared.record.Cause.TheVariants.{Unsupported, DiskFault, Memory}
use Rattle.sys_abi.specs.declared.identity.VPid.{VPid}
use Rattle.plain_machine.specs.declared.plain.Plain.{Plain}
use Rattle.plain_machine.specs.Records.{step}
use Rattle.plain_machine.specs.Runs.{run}
use Rattle.plain_machine.specs.Tests.{is_work}
use Rattle.trace_log.specs.declared.requests.Schedule.{Schedule}
use Rattle.trace_log.specs.declared.requests.Tally.{Tally}
use Rattle.trace_log.specs.Requests.{Requests, Phase, NoRequest, Requested, AfterCut, LeadsTo, MayStand, MayStandIn, MayFinish, first_requests, next_requests, phase_after, tally_after, asks, is_multiple_of, records_made_by, cut_marks}
use Rattle.trace_log.specs.RequestLaws.{Begins, RequestsAtMultiples, AtMostTwo, MarksFollowCuts, FollowsCut}
use Rattle.trace_log.proofs.RequestFronts.{gives, parts, runs}
use Rattle.trace_log.proofs.RequestCounts.{is_between, AllBetween, marks_between, counts_work, counts_cuts}

pub begins : Begins
unfolding LeadsTo
begins schedule start = (refl, refl)

-- one work record more, and no other generation
counted : (schedule : Schedule) (tally : Tally) (r : Record) → is_work r ≡ true → asks schedule (tally_after tally r) ≡ is_multiple_of schedule.every (tally.work + 1) && nat_lt tally.greatest (2 ^ 64 - 2)
unfolding asks tally_after
counted schedule tally (User p t n) work = refl
counted schedule tally (Call p t) work = refl
counted schedule tally (Deliver p t s) work = refl
counted schedule tally (Arrive dir n) work = absurd (true≢false (sym work))
counted schedule tally (Cut generation) work = absurd (true≢false (sym work))
counted schedule tally (Drained dir n) work = absurd (true≢false (sym work))
counted schedule tally (Refilled dir n) work = absurd (true≢false (sym work))
counted schedule tally (Complete generation) work = absurd (true≢false (sym work))
counted schedule tally (Refused cause) work = absurd (true≢false (sym work))
counted schedule tally Lapsed work = absurd (true≢false (sym work))

after_work : (asked : Bool) (g : Plain) (r : Record) → is_work r ≡ true → phase_after NoRequest asked g r ≡ (if asked then Requested [] else NoRequest)
after_work asked g (User p t n) work = refl
after_work asked g (Call p t) work = refl
after_work asked g (Deliver p t s) work = refl
after_work asked g (Arrive dir n) work = absurd (true≢false (sym work))
after_work asked g (Cut generation) work = absurd (true≢false (sym work))
after_work asked g (Drained dir n) work = absurd (true≢false (sym work))
after_work asked g (Refilled dir n) work = absurd (true≢false (sym work))
after_work asked g (Complete generation) work = absurd (true≢false (sym work))
after_work asked g (Refused cause) work = absurd (true≢false (sym work))
after_work asked g Lapsed work = absurd (true≢false (sym work))

pub requests_at_multiples : RequestsAtMultiples
unfolding next_requests
requests_at_multiples schedule start g now trace r so_far answered work =
    ap (λ phase. phase_after phase (asks schedule (tally_after now.tally r)) g r) answered
    ∙ after_work (asks schedule (tally_after now.tally r)) g r work
    ∙ ap (λ asked. if asked then Requested [] else NoRequest) (
    counted schedule now.tally r work
    ∙ ap (λ n. is_multiple_of schedule.every (n + 1) && nat_lt now.tally.greatest (2 ^ 64 - 2)) (counts_work schedule start g now trace so_far)
    ∙ ap (λ n. is_multiple_of schedule.every (count_by is_work trace + 1) && nat_lt n (2 ^ 64 - 2)) (counts_cuts schedule start g now trace so_far)
    )

-- no process has made more than two
IsFew : Phase → Type 0
IsFew NoRequest = Unit {0}
IsFew (Requested since) = (p : VPid) → records_made_by p since ≤ 2
IsFew (AfterCut still) = Unit {0}

one_more : (q p : VPid) (since : List VPid) (b : Bool) → (q.0 == p.0) ≡ b → records_made_by q since < 2 → records_made_by p since ≤ 2 → length (if b then q ∷ filter (λ x. x.0 == p.0) since else filter (λ x. x.0 == p.0) since) ≤ 2
one_more q p since true same few least =
    let numbers : q.0 ≡ p.0 = eqb-true q.0 p.0 same in
    let alike : records_made_by q since ≡ records_made_by p since = ap (λ n. length (filter (λ x. x.0 == n) since)) numbers in
    omega arith
one_more q p since false other few least = least

few_at_first : (asked : Bool) → IsFew (if asked then Requested [] else NoRequest)
unfolding IsFew
few_at_first true = λ p. omega arith
few_at_first false = tt

few_after : (phase : Phase) (asked : Bool) (g : Plain) (tally : Tally) (r : Record) → IsFew phase → MayStandIn phase g tally r → IsFew (phase_after phase asked g r)
unfolding IsFew
few_after NoRequest asked g tally (User p t n) few may = few_at_first asked
few_after NoRequest asked g tally (Call p t) few may = few_at_first asked
few_after NoRequest asked g tally (Deliver p t s) few may = few_at_first asked
few_after NoRequest asked g tally _ few may = tt
few_after (Requested since) asked g tally (User q t n) few may = λ p. one_more q p since (q.0 == p.0) refl may (few p)
few_after (Requested since) asked g tally (Call q t) few may = λ p. one_more q p since (q.0 == p.0) refl may (few p)
few_after (Requested since) asked g tally (Deliver q t s) few may = λ p. one_more q p since (q.0 == p.0) refl may (few p)
few_after (Requested since) asked g tally (Arrive dir n) few may = few
few_after (Requested since) asked g tally _ few may = tt
few_after (AfterCut []) asked g tally (User p t n) few may = tt
few_after (AfterCut []) asked g tally _ few may = tt
few_after (AfterCut (mark ∷ still)) asked g tally (User p t n) few may = tt
few_after (AfterCut (mark ∷ still)) asked g tally _ few may = tt

stays_few : (schedule : Schedule) (g last : Plain) (now later : Requests) (trace : List Record) → IsFew now.phase → LeadsTo schedule g now trace last later → IsFew later.phase
unfolding LeadsTo MayStand next_requests
stays_few schedule g last now later [] few whole = subst (λ n. IsFew n.phase) whole.1 few
stays_few schedule g last now later (r ∷ rest) few whole =
    let first = gives (step g r) (λ next. LeadsTo schedule next (next_requests schedule g now r) rest last later) whole.1 in
    stays_few schedule first.value last (next_requests schedule g now r) later rest (few_after now.phase (asks schedule (tally_after now.tally r)) g now.tally r few whole.0) first.holds

pub at_most_two : AtMostTwo
unfolding IsFew
at_most_two schedule start last later trace since whole is = subst IsFew is (stays_few schedule start last (first_requests schedule) later trace tt whole)

-- a mark that stands between a cut and its outcome passes one of those that must come
passes_one : (asked : Bool) (g : Plain) (mark : Record) (still : List Record) → is_between mark ≡ true → phase_after (AfterCut (mark ∷ still)) asked g mark ≡ AfterCut still
passes_one asked g (Drained dir n) still between = refl
passes_one asked g (Refilled dir n) still between = refl
passes_one asked g (User p t n) still between = absurd (true≢false (sym between))
passes_one asked g (Call p t) still between = absurd (true≢false (sym between))
passes_one asked g (Deliver p t s) still between = absurd (true≢false (sym between))
passes_one asked g (Arrive dir n) still between = absurd (true≢false (sym between))
passes_one asked g (Cut generation) still between = absurd (true≢false (sym between))
passes_one asked g (Complete generation) still between = absurd (true≢false (sym between))
passes_one asked g (Refused cause) still between = absurd (true≢false (sym between))
passes_one asked g Lapsed still between = absurd (true≢false (sym between))

same_greatest : (tally : Tally) (mark : Record) → is_between mark ≡ true → (tally_after tally mark).greatest ≡ tally.greatest
unfolding tally_after
same_greatest tally (Drained dir n) between = refl
same_greatest tally (Refilled dir n) between = refl
same_greatest tally (User p t n) between = refl
same_greatest tally (Call p t) between = refl
same_greatest tally (Deliver p t s) between = refl
same_greatest tally (Arrive dir n) between = refl
same_greatest tally (Cut generation) between = absurd (true≢false (sym between))
same_greatest tally (Complete generation) between = refl
same_greatest tally (Refused cause) between = refl
same_greatest tally Lapsed between = refl

finishes : (tally : Tally) (generation : ℕ) (r : Record) → tally.greatest ≡ generation → MayFinish tally r → (r ≡ Complete generation) ⊎ ((r ≡ Refused DiskFault) ⊎ (r ≡ Refused Memory))
finishes tally generation (Complete of) is may = inl (ap (λ n. Complete n) (may ∙ is))
finishes tally generation (Refused DiskFault) is may = inr (inl refl)
finishes tally generation (Refused Memory) is may = inr (inr refl)
finishes tally generation (Refused (Unsupported p fd kind)) is may = absurd may
finishes tally generation (User p t n) is may = absurd may
finishes tally generation (Call p t) is may = absurd may
finishes tally generation (Deliver p t s) is may = absurd may
finishes tally generation (Arrive dir n) is may = absurd may
finishes tally generation (Cut of) is may = absurd may
finishes tally generation (Drained dir n) is may = absurd may
finishes tally generation (Refilled dir n) is may = absurd may
finishes tally generation Lapsed is may = absurd may

put_before : (generation : ℕ) (r mark : Record) (still rest : List Record) → r ≡ mark → FollowsCut generation still rest → FollowsCut generation (mark ∷ still) (r ∷ rest)
put_before generation r mark still rest same (inl part) = inl (record { still = part.still; whole = λ i. same i ∷ part.whole i })
put_before generation r mark still rest same (inr all) = inr (record { outcome = all.outcome; more = all.more; whole = λ i. same i ∷ all.whole i; kind = all.kind })

follows : (schedule : Schedule) (g last : Plain) (now later : Requests) (still rest : List Record) (generation : ℕ) →
    AllBetween still → now.phase ≡ AfterCut still → now.tally.greatest ≡ generation → LeadsTo schedule g now rest last later → FollowsCut generation still rest
unfolding LeadsTo MayStand next_requests
follows schedule g last now later still [] generation between after is whole = inl (record { still = still; whole = refl })
follows schedule g last now later [] (r ∷ rest) generation between after is whole =
    inr (record {
      outcome = r;
      more = rest;
      whole = refl;
      kind = finishes now.tally generation r is (subst (λ phase. MayStandIn phase g now.tally r) after whole.0);
    })
follows schedule g last now later (mark ∷ still) (r ∷ rest) generation between after is whole =
    let here : r ≡ mark = subst (λ phase. MayStandIn phase g now.tally r) after whole.0 in
    let first = gives (step g r) (λ next. LeadsTo schedule next (next_requests schedule g now r) rest last later) whole.1 in
    let asked = asks schedule (tally_after now.tally r) in
    let passed = ap (λ phase. phase_after phase asked g r) after ∙ ap (λ x. phase_after (AfterCut (mark ∷ still)) asked g x) here ∙ passes_one asked g mark still between.0 in
    let number = ap (λ x. (tally_after now.tally x).greatest) here ∙ same_greatest now.tally mark between.0 ∙ is in
    put_before generation r mark still rest here (follows schedule first.value last (next_requests schedule g now r) later still rest generation between.1 passed number first.holds)

after_cut : (schedule : Schedule) (g last : Plain) (now later : Requests) (generation : ℕ) (rest : List Record) → LeadsTo schedule g now (Cut generation ∷ rest) last later → FollowsCut generation (cut_marks g) rest
unfolding LeadsTo next_requests tally_after
after_cut schedule g last now later generation rest whole =
    let first = gives (step g (Cut generation)) (λ next. LeadsTo schedule next (next_requests schedule g now (Cut generation)) rest last later) whole.1 in
    follows schedule first.value last (next_requests schedule g now (Cut generation)) later (cut_marks g) rest generation (marks_between g) refl refl first.holds

same_end : (g h : Plain) (o : Option Plain) → o ≡ Some g → o ≡ Some h → g ≡ h
same_end g h o one other = ap (λ a. unwrap_or a g) (sym one ∙ other)

pub marks_follow_cuts : MarksFollowCuts
marks_follow_cuts schedule start last g later trace generation whole cut =
    let all = parts schedule start last (first_requests schedule) later cut.front (Cut generation ∷ cut.rest) (subst (λ t. LeadsTo schedule start (first_requests schedule) t last later) cut.whole whole) in
    let same : all.state ≡ g = same_end all.state g (run start cut.front) (runs schedule start all.state (first_requests schedule) all.requests cut.front all.begins) cut.there in
    subst (λ a. FollowsCut generation (cut_marks a) cut.rest) same (after_cut schedule all.state last all.requests later generation cut.rest all.ends)

-- A request served: which marks may stand there, and what is true after each.
use Rattle.std.proofs.Common.{◌≡◌, ◌≢◌, ℕ, suc, ◌+◌, ◌-◌, ◌^◌, ◌<◌, ◌≤◌, Bool, true, false, List, [], ◌∷◌, ◌++◌, Option, None, inl, inr, refl, sym, ap, subst, ◌∙◌, arith, tests}
use Rattle.std.specs.Prelude.{◌⊎◌, ◌&&◌, nat_lt}
use Rattle.views.proofs.MapLaws.{true_false}
use Rattle.sys_abi.specs.declared.identity.VPid.{VPid}
use Rattle.sys_abi.specs.declared.identity.Fd.{Fd}
use Rattle.sys_abi.specs.declared.record.Kind.{Kind}
use Rattle.sys_abi.specs.declared.record.Record.{Record}
use Rattle.sys_abi.specs.declared.record.Record.TheVariants.{User, Call, Deliver, Arrive, Cut, Drained, Refilled, Complete, Refused, Lapsed}
use Rattle.sys_abi.specs.declared.record.Cause.{Cause}
use Rattle.sys_abi.specs.declared.record.Cause.TheVariants.{Unsupported, DiskFault, Memory}
use Rattle.disk_folder.specs.SeenFolder.{SeenFolder}
use Rattle.plain_machine.specs.declared.plain.Plain.{Plain}
use Rattle.plain_machine.specs.Tests.{ended, full_arrive}
use Rattle.trace_log.specs.declared.requests.Schedule.{Schedule}
use Rattle.trace_log.specs.declared.requests.Tally.{Tally}
use Rattle.trace_log.specs.Trace.{TraceState, with_record}
use Rattle.trace_log.specs.Requests.{Requests, Phase, NoRequest, Requested, AfterCut, MayStand, MayStandIn, CanBeHeld, IsUnsupported, is_mark, is_outcome, is_multiple_of, asks, cut_marks, tally_after, next_requests, phase_after}
use Rattle.trace_log.specs.LogText.{line_of, after}
use Rattle.trace_log.specs.Turns.{Upcoming}
use Rattle.checkpointer.specs.declared.checkpointer.Checkpointer.{Checkpointer}
use Rattle.edge_io.specs.Sunk.{Sunk, sunk, Took, TookFront}
use Rattle.checkpointer.specs.Running.{IsNoted}
use Rattle.checkpointer.specs.Keeping.{IsSafe}
use Rattle.checkpointer.specs.UnderWay.{IsUnderWay, IsBrokenOff}
use Rattle.checkpointer.proofs.Running.{running_mark, noted_mark, part_noted}

left_true : (a b : Bool) → (a && b) ≡ true → a ≡ true
left_true true b both = refl
left_true false b both = both

right_true : (a b : Bool) → (a && b) ≡ true → b ≡ true
right_true true b both = both
right_true false b both = true_false (sym both)

-- requests are asked for only where there is a schedule, and a generation left
pub asks_below : (schedule : Schedule) (tally : Tally) → asks schedule tally ≡ true → tally.greatest < 2 ^ 64 - 2
unfolding asks
asks_below schedule tally is = less tally.greatest (right_true (is_multiple_of schedule.every tally.work) (nat_lt tally.greatest (2 ^ 64 - 2)) is)
  where
    less : (n : ℕ) → nat_lt n (2 ^ 64 - 2) ≡ true → n < 2 ^ 64 - 2
    less n below = grind (arith, tests)

pub asks_some : (schedule : Schedule) (tally : Tally) → asks schedule tally ≡ true → schedule.every ≢ None
unfolding asks
asks_some schedule tally is none = true_false (sym (left_true (is_multiple_of schedule.every tally.work) (nat_lt tally.greatest (2 ^ 64 - 2)) is) ∙ ap (λ every. is_multiple_of every tally.work) none)

-- which marks may stand while a request waits
pub lapse_stands : (g : Plain) (requests : Requests) → requests.phase ≡ Requested [] → ended g ≡ true → MayStand g requests Lapsed
unfolding MayStand
lapse_stands g requests waits over = subst (λ phase. MayStandIn phase g requests.tally Lapsed) (sym waits) over

pub refusal_stands : (g : Plain) (requests : Requests) (cause : Cause) → requests.phase ≡ Requested [] → CanBeHeld g → (cause ≡ DiskFault) ⊎ (cause ≡ Memory) → MayStand g requests (Refused cause)
unfolding MayStand
refusal_stands g requests cause waits held (inl is) = subst (λ phase. MayStandIn phase g requests.tally (Refused cause)) (sym waits) (subst (λ c. MayStandIn (Requested []) g requests.tally (Refused c)) (sym is) held)
refusal_stands g requests cause waits held (inr is) = subst (λ phase. MayStandIn phase g requests.tally (Refused cause)) (sym waits) (subst (λ c. MayStandIn (Requested []) g requests.tally (Refused c)) (sym is) held)

pub unsupported_stands : (g : Plain) (requests : Requests) (p : VPid) (fd : Fd) (kind : Kind) → requests.phase ≡ Requested [] → IsUnsupported g p fd kind → MayStand g requests (Refused (Unsupported p fd kind))
unfolding MayStand
unsupported_stands g requests p fd kind waits is = subst (λ phase. MayStandIn phase g requests.tally (Refused (Unsupported p fd kind))) (sym waits) is

pub cut_stands : (g : Plain) (requests : Requests) (generation : ℕ) → requests.phase ≡ Requested [] → CanBeHeld g → full_arrive g ≡ g → generation ≡ requests.tally.greatest + 1 → MayStand g requests (Cut generation)
unfolding MayStand
cut_stands g requests generation waits held arrived is = subst (λ phase. MayStandIn phase g requests.tally (Cut generation)) (sym waits) (held, arrived, is)

-- after the cut come its marks
pub after_cut : (schedule : Schedule) (g : Plain) (requests : Requests) (generation : ℕ) → (next_requests schedule g requests (Cut generation)).phase ≡ AfterCut (cut_marks g)
unfolding next_requests
after_cut schedule g requests generation = refl

pub pass_stands : (g : Plain) (requests : Requests) (mark : Record) (still : List Record) → requests.phase ≡ AfterCut (mark ∷ still) → MayStand g requests mark
unfolding MayStand
pass_stands g requests mark still cut = subst (λ phase. MayStandIn phase g requests.tally mark) (sym cut) refl

pub complete_stands : (g : Plain) (requests : Requests) (generation : ℕ) → requests.phase ≡ AfterCut [] → generation ≡ requests.tally.greatest → MayStand g requests (Complete generation)
unfolding MayStand
complete_stands g requests generation cut is = subst (λ phase. MayStandIn phase g requests.tally (Complete generation)) (sym cut) is

pub late_refusal_stands : (g : Plain) (requests : Requests) (cause : Cause) → requests.phase ≡ AfterCut [] → (cause ≡ DiskFault) ⊎ (cause ≡ Memory) → MayStand g requests (Refused cause)
unfolding MayStand
late_refusal_stands g requests cause cut (inl is) = subst (λ phase. MayStandIn phase g requests.tally (Refused cause)) (sym cut) (subst (λ c. MayStandIn (AfterCut []) g requests.tally (Refused c)) (sym is) tt)
late_refusal_stands g requests cause cut (inr is) = subst (λ phase. MayStandIn phase g requests.tally (Refused cause)) (sym cut) (subst (λ c. MayStandIn (AfterCut []) g requests.tally (Refused c)) (sym is) tt)

outcome_is_mark : (r : Record) → is_outcome r ≡ true → is_mark r ≡ true
outcome_is_mark (Complete generation) outcome = refl
outcome_is_mark (Refused cause) outcome = refl
outcome_is_mark Lapsed outcome = refl
outcome_is_mark (User p t n) outcome = outcome
outcome_is_mark (Call p t) outcome = outcome
outcome_is_mark (Deliver p t s) outcome = outcome
outcome_is_mark (Arrive dir n) outcome = outcome
outcome_is_mark (Cut generation) outcome = refl
outcome_is_mark (Drained dir n) outcome = refl
outcome_is_mark (Refilled dir n) outcome = refl

-- an outcome ends the request
phase_ends : (phase : Phase) (asked : Bool) (g : Plain) (r : Record) → is_outcome r ≡ true → (phase ≡ Requested []) ⊎ (phase ≡ AfterCut []) → phase_after phase asked g r ≡ NoRequest
phase_ends phase asked g (Complete generation) outcome (inl waits) = ap (λ p. phase_after p asked g (Complete generation)) waits
phase_ends phase asked g (Complete generation) outcome (inr cut) = ap (λ p. phase_after p asked g (Complete generation)) cut
phase_ends phase asked g (Refused cause) outcome (inl waits) = ap (λ p. phase_after p asked g (Refused cause)) waits
phase_ends phase asked g (Refused cause) outcome (inr cut) = ap (λ p. phase_after p asked g (Refused cause)) cut
phase_ends phase asked g Lapsed outcome (inl waits) = ap (λ p. phase_after p asked g Lapsed) waits
phase_ends phase asked g Lapsed outcome (inr cut) = ap (λ p. phase_after p asked g Lapsed) cut
phase_ends phase asked g (User p t n) outcome either = true_false (sym outcome)
phase_ends phase asked g (Call p t) outcome either = true_false (sym outcome)
phase_ends phase asked g (Deliver p t s) outcome either = true_false (sym outcome)
phase_ends phase asked g (Arrive dir n) outcome either = true_false (sym outcome)
phase_ends phase asked g (Cut generation) outcome either = true_false (sym outcome)
phase_ends phase asked g (Drained dir n) outcome either = true_false (sym outcome)
phase_ends phase asked g (Refilled dir n) outcome either = true_false (sym outcome)

pub complete_ends : (schedule : Schedule) (g : Plain) (requests : Requests) (generation : ℕ) → requests.phase ≡ AfterCut [] → (next_requests schedule g requests (Complete generation)).phase ≡ NoRequest
unfolding next_requests
complete_ends schedule g requests generation cut = phase_ends requests.phase (asks schedule (tally_after requests.tally (Complete generation))) g (Complete generation) refl (inr cut)

pub refusal_ends : (schedule : Schedule) (g : Plain) (requests : Requests) (cause : Cause) → (requests.phase ≡ Requested []) ⊎ (requests.phase ≡ AfterCut []) → (next_requests schedule g requests (Refused cause)).phase ≡ NoRequest
unfolding next_requests
refusal_ends schedule g requests cause either = phase_ends requests.phase (asks schedule (tally_after requests.tally (Refused cause))) g (Refused cause) refl either

pub lapse_ends : (schedule : Schedule) (g : Plain) (requests : Requests) → requests.phase ≡ Requested [] → (next_requests schedule g requests Lapsed).phase ≡ NoRequest
unfolding next_requests
lapse_ends schedule g requests waits = phase_ends requests.phase (asks schedule (tally_after requests.tally Lapsed)) g Lapsed refl (inl waits)

-- the tally after a mark
pub cut_tally : (tally : Tally) (generation : ℕ) → (tally_after tally (Cut generation)).greatest ≡ generation
unfolding tally_after
cut_tally tally generation = refl

pub cut_work : (tally : Tally) (generation : ℕ) → (tally_after tally (Cut generation)).work ≡ tally.work
unfolding tally_after
cut_work tally generation = refl

pub outcome_tally : (tally : Tally) (r : Record) → is_mark r ≡ true → ((generation : ℕ) → r ≢ Cut generation) → (tally_after tally r).greatest ≡ tally.greatest
unfolding tally_after
outcome_tally tally (Cut generation) marks other = absurd (other generation refl)
outcome_tally tally (Complete generation) marks other = refl
outcome_tally tally (Refused cause) marks other = refl
outcome_tally tally Lapsed marks other = refl
outcome_tally tally (Drained dir n) marks other = refl
outcome_tally tally (Refilled dir n) marks other = refl
outcome_tally tally (User p t n) marks other = absurd (cc)
outcome_tally tally (Call p t) marks other = absurd (cc)
outcome_tally tally (Deliver p t s) marks other = absurd (cc)
outcome_tally tally (Arrive dir n) marks other = absurd (cc)

-- one more mark, whose line the log took
pub marked : (schedule : Schedule) (g : Plain) (h : Plain) (upcoming : Upcoming) (checkpointer later : Checkpointer) (from to : TraceState) (sink : Sunk) (had mid has : Option (List ℕ)) (r : Record) (first disk next : SeenFolder)
    → (before : IsUnderWay schedule g h upcoming checkpointer from sink (sunk had mid) first disk) → is_mark r ≡ true → MayStand h before.running.requests r → to ≡ with_record from r
    → later.schedule ≡ checkpointer.schedule → later.lines ≡ after checkpointer.lines r → later.tally ≡ tally_after checkpointer.tally r → Took (sunk mid has) (line_of checkpointer.lines r)
    → later.lines.request ≤ suc checkpointer.lines.request → ((next_requests schedule h before.running.requests r).phase ≡ NoRequest → later.lines.drained ≡ 0) → IsSafe g (from.records ++ r ∷ []) first next
    → (after : IsUnderWay schedule g h upcoming later to sink (sunk had has) first next) × (after.running.requests ≡ next_requests schedule h before.running.requests r)
marked schedule g h upcoming checkpointer later from to sink had mid has r first disk next before marks may traced scheduled lined tallied took few dry safe =
    let running = running_mark schedule g h upcoming from.records sink r before.running marks may in
    let noted = noted_mark schedule h r before.running.requests checkpointer later from.records had mid has before.noted scheduled lined tallied took few dry in
    let whole : IsUnderWay schedule g h upcoming later (with_record from r) sink (sunk had has) first next = record {
      running = running.0;
      noted = subst (λ (q : Requests). IsNoted schedule q later (from.records ++ r ∷ []) (sunk had has)) (sym running.1) noted;
      safe = safe;
    } in
    subst (λ (t : TraceState). (after : IsUnderWay schedule g h upcoming later t sink (sunk had has) first next) × (after.running.requests ≡ next_requests schedule h before.running.requests r)) (sym traced) (whole, running.1)

-- one more outcome, of whose line the log took a first part
pub broken : (schedule : Schedule) (g : Plain) (h : Plain) (upcoming : Upcoming) (checkpointer : Checkpointer) (from to : TraceState) (sink : Sunk) (had mid has : Option (List ℕ)) (r : Record) (first disk next : SeenFolder)
    → (before : IsUnderWay schedule g h upcoming checkpointer from sink (sunk had mid) first disk) → is_outcome r ≡ true → MayStand h before.running.requests r → to ≡ with_record from r
    → TookFront (sunk mid has) (line_of checkpointer.lines r) → IsSafe g (from.records ++ r ∷ []) first next
    → IsBrokenOff schedule g h upcoming to sink (sunk had has) first next
broken schedule g h upcoming checkpointer from to sink had mid has r first disk next before outcome may traced front safe =
    let running = running_mark schedule g h upcoming from.records sink r before.running (outcome_is_mark r outcome) may in
    let part = part_noted before.running.requests checkpointer schedule r from.records had mid has before.noted outcome front in
    let whole : IsBrokenOff schedule g h upcoming (with_record from r) sink (sunk had has) first next = record {
      running = running.0;
      lines = part.0;
      cut = part.1.0;
      logged = part.1.1;
      safe = safe;
    } in
    subst (λ (t : TraceState). IsBrokenOff schedule g h upcoming t sink (sunk had has) first next) (sym traced) whole

-- How a request goes on: each case computes once the phase is the one that it speaks of.
use Rattle.std.proofs.Common.{◌≡◌, ◌<◌, Bool, [], ◌∷◌, refl, sym, ap, subst, inl, inr, ◌∙◌}
use Rattle.std.proofs.lemmas.Bool.{true≢false}
use Rattle.sys_abi.specs.declared.record.Record.{Record}
use Rattle.sys_abi.specs.declared.record.Record.TheVariants.{User, Call, Deliver, Arrive, Cut, Drained, Refilled, Complete, Refused, Lapsed}
use Rattle.sys_abi.specs.declared.record.Cause.{Cause}
use Rattle.sys_abi.specs.declared.record.Cause.TheVariants.{Unsupported, DiskFault, Memory}
use Rattle.plain_machine.specs.declared.plain.Plain.{Plain}
use Rattle.plain_machine.specs.Records.{outcome}
use Rattle.trace_log.specs.declared.requests.Schedule.{Schedule}
use Rattle.trace_log.specs.Requests.{Requests, Phase, NoRequest, Requested, AfterCut, MayStand, MayStandIn, records_made_by, next_requests, phase_after, tally_after, asks}
use Rattle.trace_log.specs.RequestSteps.{MarkStays, Follows, StandsAlone, Arrives, ArrivesMeanwhile, WorksMeanwhile, Lapses, IsRefusedForKind, IsFault, IsRefused, IsCutNow, PassesDrained, PassesRefilled, Completes, FailsAfterCut}

pub mark_stays : MarkStays
unfolding outcome
mark_stays g (User p t n) is = absurd (true≢false (sym is))
mark_stays g (Call p t) is = absurd (true≢false (sym is))
mark_stays g (Deliver p t s) is = absurd (true≢false (sym is))
mark_stays g (Arrive dir n) is = absurd (true≢false (sym is))
mark_stays g (Cut generation) is = refl
mark_stays g (Drained dir n) is = refl
mark_stays g (Refilled dir n) is = refl
mark_stays g (Complete generation) is = refl
mark_stays g (Refused cause) is = refl
mark_stays g Lapsed is = refl

-- from the phase that it has, whatever the last record asked for
from_phase : (schedule : Schedule) (g : Plain) (now : Requests) (r : Record) (phase after : Phase) → now.phase ≡ phase → MayStandIn phase g now.tally r → ((asked : Bool) → phase_after phase asked g r ≡ after) →
    Follows schedule g now r after
unfolding MayStand next_requests
from_phase schedule g now r phase after is may leads = record {
  may = subst (λ p. MayStandIn p g now.tally r) (sym is) may;
  leads = ap (λ p. phase_after p (asks schedule (tally_after now.tally r)) g r) is ∙ leads (asks schedule (tally_after now.tally r));
}

pub stands_alone : StandsAlone
unfolding MayStand
stands_alone g now r answered plain = subst (λ p. MayStandIn p g now.tally r) (sym answered) plain

pub arrives : Arrives
arrives schedule g now dir n is = from_phase schedule g now (Arrive dir n) NoRequest NoRequest is refl (λ asked. refl)

pub arrives_meanwhile : ArrivesMeanwhile
arrives_meanwhile schedule g now since dir n is = from_phase schedule g now (Arrive dir n) (Requested since) (Requested since) is tt (λ asked. refl)

pub works_meanwhile : WorksMeanwhile
works_meanwhile schedule g now since (User q t n) p is of few =
    let same : q ≡ p = cc in
    from_phase schedule g now (User q t n) (Requested since) (Requested (p ∷ since)) is (subst (λ x. records_made_by x since < 2) (sym same) few) (λ asked. ap (λ x. Requested (x ∷ since)) same)
works_meanwhile schedule g now since (Call q t) p is of few =
    let same : q ≡ p = cc in
    from_phase schedule g now (Call q t) (Requested since) (Requested (p ∷ since)) is (subst (λ x. records_made_by x since < 2) (sym same) few) (λ asked. ap (λ x. Requested (x ∷ since)) same)
works_meanwhile schedule g now since (Deliver q t s) p is of few =
    let same : q ≡ p = cc in
    from_phase schedule g now (Deliver q t s) (Requested since) (Requested (p ∷ since)) is (subst (λ x. records_made_by x since < 2) (sym same) few) (λ asked. ap (λ x. Requested (x ∷ since)) same)
works_meanwhile schedule g now since (Arrive dir n) p is of few = cc
works_meanwhile schedule g now since (Cut generation) p is of few = cc
works_meanwhile schedule g now since (Drained dir n) p is of few = cc
works_meanwhile schedule g now since (Refilled dir n) p is of few = cc
works_meanwhile schedule g now since (Complete generation) p is of few = cc
works_meanwhile schedule g now since (Refused cause) p is of few = cc
works_meanwhile schedule g now since Lapsed p is of few = cc

pub lapses : Lapses
lapses schedule g now since is over = from_phase schedule g now Lapsed (Requested since) NoRequest is over (λ asked. refl)

pub is_refused_for_kind : IsRefusedForKind
is_refused_for_kind schedule g now since p fd kind is names = from_phase schedule g now (Refused (Unsupported p fd kind)) (Requested since) NoRequest is names (λ asked. refl)

-- a statement on each fault is one on both
at_faults : (P : Cause → Type 0) (cause : Cause) → IsFault cause → P DiskFault → P Memory → P cause
at_faults P cause (inl disk) one other = subst P (sym disk) one
at_faults P cause (inr memory) one other = subst P (sym memory) other

pub is_refused : IsRefused
is_refused schedule g now since cause is fault held =
    at_faults (λ c. Follows schedule g now (Refused c) NoRequest) cause fault
    (from_phase schedule g now (Refused DiskFault) (Requested since) NoRequest is held (λ asked. refl))
    (from_phase schedule g now (Refused Memory) (Requested since) NoRequest is held (λ asked. refl))

pub is_cut_now : IsCutNow
is_cut_now schedule g now since generation is held arrived next =
    from_phase schedule g now (Cut generation) (Requested since) _ is (held, arrived, next) (λ asked. refl)

pub passes_drained : PassesDrained
passes_drained schedule g now dir n still is = from_phase schedule g now (Drained dir n) (AfterCut (Drained dir n ∷ still)) (AfterCut still) is refl (λ asked. refl)

pub passes_refilled : PassesRefilled
passes_refilled schedule g now dir n still is = from_phase schedule g now (Refilled dir n) (AfterCut (Refilled dir n ∷ still)) (AfterCut still) is refl (λ asked. refl)

pub completes : Completes
completes schedule g now generation is same = from_phase schedule g now (Complete generation) (AfterCut []) NoRequest is same (λ asked. refl)

pub fails_after_cut : FailsAfterCut
fails_after_cut schedule g now cause is fault =
    at_faults (λ c. Follows schedule g now (Refused c) NoRequest) cause fault
    (from_phase schedule g now (Refused DiskFault) (AfterCut []) NoRequest is tt (λ asked. refl))
    (from_phase schedule g now (Refused Memory) (AfterCut []) NoRequest is tt (λ asked. refl))

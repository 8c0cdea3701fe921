-- How a request goes on, record by record, each of which the contract of `request_steps` promises: the record
-- may stand there, and what it leads to.
use Rattle.std.specs.Prelude.{◌≡◌, ℕ, ◌+◌, ◌<◌, true, false, List, [], ◌∷◌, ◌⊎◌, Some}
use Rattle.sys_abi.specs.declared.identity.VPid.{VPid}
use Rattle.sys_abi.specs.declared.identity.Fd.{Fd}
use Rattle.sys_abi.specs.declared.identity.Dir.{Dir}
use Rattle.sys_abi.specs.declared.record.Record.{Record}
use Rattle.sys_abi.specs.declared.record.Record.TheVariants.{Arrive, Cut, Drained, Refilled, Complete, Refused, Lapsed}
use Rattle.sys_abi.specs.declared.record.Cause.{Cause}
use Rattle.sys_abi.specs.declared.record.Cause.TheVariants.{Unsupported, DiskFault, Memory}
use Rattle.sys_abi.specs.declared.record.Kind.{Kind}
use Rattle.plain_machine.specs.declared.plain.Plain.{Plain}
use Rattle.plain_machine.specs.Laws.{subject}
use Rattle.plain_machine.specs.Records.{step}
use Rattle.plain_machine.specs.Tests.{ended, full_arrive}
use Rattle.trace_log.specs.declared.requests.Schedule.{Schedule}
use Rattle.trace_log.specs.Requests.{Requests, Phase, NoRequest, Requested, AfterCut, MayStand, CanBeHeld, IsUnsupported, IsAnswered, is_mark, records_made_by, next_requests, cut_marks}

-- a mark changes nothing
abbrev pub MarkStays : Type 0
MarkStays = (g : Plain) (r : Record) → is_mark r ≡ true → step g r ≡ Some g

-- the record may stand there, and it leads to this phase
pub record Follows (schedule : Schedule) (g : Plain) (now : Requests) (r : Record) (phase : Phase) : Type 0 where
  pub may : MayStand g now r
  pub leads : (next_requests schedule g now r).phase ≡ phase

-- where no request is open, whatever is no mark may come, and arrivals go on with none open
abbrev pub StandsAlone : Type 0
StandsAlone = (g : Plain) (now : Requests) (r : Record) → IsAnswered now → is_mark r ≡ false → MayStand g now r

abbrev pub Arrives : Type 0
Arrives = (schedule : Schedule) (g : Plain) (now : Requests) (dir : Dir) (n : ℕ) → IsAnswered now → Follows schedule g now (Arrive dir n) NoRequest

-- while a request waits: arrivals, and work of a process that has made less than two records since
abbrev pub ArrivesMeanwhile : Type 0
ArrivesMeanwhile =
    (schedule : Schedule) (g : Plain) (now : Requests) (since : List VPid) (dir : Dir) (n : ℕ) → now.phase ≡ Requested since → Follows schedule g now (Arrive dir n) (Requested since)

abbrev pub WorksMeanwhile : Type 0
WorksMeanwhile =
    (schedule : Schedule) (g : Plain) (now : Requests) (since : List VPid) (r : Record) (p : VPid) →
    now.phase ≡ Requested since → subject r ≡ Some p → records_made_by p since < 2 → Follows schedule g now r (Requested (p ∷ since))

-- how it ends without a cut
abbrev pub Lapses : Type 0
Lapses = (schedule : Schedule) (g : Plain) (now : Requests) (since : List VPid) → now.phase ≡ Requested since → ended g ≡ true → Follows schedule g now Lapsed NoRequest

abbrev pub IsRefusedForKind : Type 0
IsRefusedForKind =
    (schedule : Schedule) (g : Plain) (now : Requests) (since : List VPid) (p : VPid) (fd : Fd) (kind : Kind) →
    now.phase ≡ Requested since → IsUnsupported g p fd kind → Follows schedule g now (Refused (Unsupported p fd kind)) NoRequest

-- a disk fault or want of memory
abbrev pub IsFault : Cause → Type 0
IsFault cause = (cause ≡ DiskFault) ⊎ (cause ≡ Memory)

abbrev pub IsRefused : Type 0
IsRefused =
    (schedule : Schedule) (g : Plain) (now : Requests) (since : List VPid) (cause : Cause) →
    now.phase ≡ Requested since → IsFault cause → CanBeHeld g → Follows schedule g now (Refused cause) NoRequest

-- its cut, the marks after it, and its outcome
abbrev pub IsCutNow : Type 0
IsCutNow =
    (schedule : Schedule) (g : Plain) (now : Requests) (since : List VPid) (generation : ℕ) →
    now.phase ≡ Requested since → CanBeHeld g → full_arrive g ≡ g → generation ≡ now.tally.greatest + 1 → Follows schedule g now (Cut generation) (AfterCut (cut_marks g))

abbrev pub PassesDrained : Type 0
PassesDrained =
    (schedule : Schedule) (g : Plain) (now : Requests) (dir : Dir) (n : ℕ) (still : List Record) →
    now.phase ≡ AfterCut (Drained dir n ∷ still) → Follows schedule g now (Drained dir n) (AfterCut still)

abbrev pub PassesRefilled : Type 0
PassesRefilled =
    (schedule : Schedule) (g : Plain) (now : Requests) (dir : Dir) (n : ℕ) (still : List Record) →
    now.phase ≡ AfterCut (Refilled dir n ∷ still) → Follows schedule g now (Refilled dir n) (AfterCut still)

abbrev pub Completes : Type 0
Completes =
    (schedule : Schedule) (g : Plain) (now : Requests) (generation : ℕ) →
    now.phase ≡ AfterCut [] → generation ≡ now.tally.greatest → Follows schedule g now (Complete generation) NoRequest

abbrev pub FailsAfterCut : Type 0
FailsAfterCut = (schedule : Schedule) (g : Plain) (now : Requests) (cause : Cause) → now.phase ≡ AfterCut [] → IsFault cause → Follows schedule g now (Refused cause) NoRequest

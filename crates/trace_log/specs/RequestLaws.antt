-- Laws of requests and marks, each of which the contract of `request_laws` promises.
use Rattle.std.specs.Prelude.{◌≡◌, ◌⊎◌, ◌&&◌, ℕ, ◌+◌, ◌-◌, ◌^◌, ◌<◌, ◌≤◌, Bool, true, false, nat_lt, if◌then◌else◌, List, [], ◌∷◌, ◌++◌, Some, None, All}
use Rattle.std.specs.List.{count_by, list_any}
use Rattle.std.specs.FinMap as map
use Rattle.sys_abi.specs.declared.record.Record.{Record}
use Rattle.sys_abi.specs.declared.record.Record.TheVariants.{Cut, Complete, Refused, Lapsed}
use Rattle.sys_abi.specs.declared.record.Cause.TheVariants.{Unsupported, DiskFault, Memory}
use Rattle.sys_abi.specs.declared.identity.VPid.{VPid}
use Rattle.plain_machine.specs.declared.plain.Plain.{Plain}
use Rattle.plain_machine.specs.Records.{step}
use Rattle.plain_machine.specs.Runs.{run}
use Rattle.plain_machine.specs.Tests.{ended, full_arrive, is_work}
use Rattle.trace_log.specs.declared.requests.Schedule.{Schedule}
use Rattle.trace_log.specs.LogText.{at_start as log_start, after_all, line_of, log_text}
use Rattle.trace_log.specs.Requests.{Requests, NoRequest, Requested, RunsTo, LeadsTo, MayStand, CanBeHeld, IsUnsupported, CutAt, IsAnswered, first_requests, is_mark, is_outcome, is_multiple_of, records_made_by, next_requests, cut_marks}

abbrev pub is_cut : Record → Bool
is_cut (Cut generation) = true
is_cut _ = false

abbrev pub Begins : Type 0
Begins = (schedule : Schedule) (start : Plain) → RunsTo schedule start [] start (first_requests schedule)

-- what leads on from where another came to leads on from where that began
abbrev pub GoesOn : Type 0
GoesOn =
    (schedule : Schedule) (g half last : Plain) (now mid later : Requests) (front rest : List Record) →
    LeadsTo schedule g now front half mid → LeadsTo schedule half mid rest last later → LeadsTo schedule g now (front ++ rest) last later

-- one more record at a trace's end
abbrev pub GoesOnByOne : Type 0
GoesOnByOne =
    (schedule : Schedule) (start g next : Plain) (now : Requests) (trace : List Record) (r : Record) →
    RunsTo schedule start trace g now → MayStand g now r → step g r ≡ Some next → RunsTo schedule start (trace ++ r ∷ []) next (next_requests schedule g now r)

-- a front of a trace is one too, and the rest leads on from where it comes to
pub record Splits (schedule : Schedule) (start : Plain) (front rest : List Record) (last : Plain) (later : Requests) : Type 0 where
  pub state : Plain
  pub requests : Requests
  pub front_reaches : RunsTo schedule start front state requests
  pub rest_leads : LeadsTo schedule state requests rest last later

abbrev pub HasFronts : Type 0
HasFronts =
    (schedule : Schedule) (start last : Plain) (later : Requests) (front rest : List Record) →
    RunsTo schedule start (front ++ rest) last later → Splits schedule start front rest last later

-- it is a run
abbrev pub IsARun : Type 0
IsARun = (schedule : Schedule) (start last : Plain) (later : Requests) (trace : List Record) → RunsTo schedule start trace last later → run start trace ≡ Some last

-- without `every` the traces are the runs without a mark
abbrev pub HasNoMarks : Type 0
HasNoMarks =
    (schedule : Schedule) (start last : Plain) (later : Requests) (trace : List Record) →
    schedule.every ≡ None → RunsTo schedule start trace last later → All (λ r. is_mark r ≡ false) trace × IsAnswered later

abbrev pub IsEachWithoutMarks : Type 0
IsEachWithoutMarks =
    (schedule : Schedule) (start last : Plain) (trace : List Record) →
    schedule.every ≡ None → run start trace ≡ Some last → All (λ r. is_mark r ≡ false) trace → (later : Requests) × RunsTo schedule start trace last later

-- the tally has the number of work records, and each cut raises the greatest generation by one
abbrev pub CountsWork : Type 0
CountsWork =
    (schedule : Schedule) (start last : Plain) (later : Requests) (trace : List Record) →
    RunsTo schedule start trace last later → later.tally.work ≡ count_by is_work trace

abbrev pub CountsCuts : Type 0
CountsCuts =
    (schedule : Schedule) (start last : Plain) (later : Requests) (trace : List Record) →
    RunsTo schedule start trace last later → later.tally.greatest ≡ schedule.opening + count_by is_cut trace

-- where no request is open, a work record makes one exactly where it brings their number to a multiple of
-- `every` and there is a generation left
abbrev pub RequestsAtMultiples : Type 0
RequestsAtMultiples =
    (schedule : Schedule) (start g : Plain) (now : Requests) (trace : List Record) (r : Record) →
    RunsTo schedule start trace g now → IsAnswered now → is_work r ≡ true →
    (next_requests schedule g now r).phase
    ≡ (if is_multiple_of schedule.every (count_by is_work trace + 1) && nat_lt (schedule.opening + count_by is_cut trace) (2 ^ 64 - 2) then Requested [] else NoRequest)

-- while a request waits, no process makes more than two work records
abbrev pub AtMostTwo : Type 0
AtMostTwo =
    (schedule : Schedule) (start last : Plain) (later : Requests) (trace : List Record) (since : List VPid) →
    RunsTo schedule start trace last later → later.phase ≡ Requested since → (p : VPid) → records_made_by p since ≤ 2

-- after a cut come its marks as far as the trace goes, or all of them and then its outcome
pub record StillMarks (marks rest : List Record) : Type 0 where
  pub still : List Record
  pub whole : rest ++ still ≡ marks

pub record HasOutcome (generation : ℕ) (marks rest : List Record) : Type 0 where
  pub outcome : Record
  pub more : List Record
  pub whole : rest ≡ marks ++ outcome ∷ more
  pub kind : (outcome ≡ Complete generation) ⊎ ((outcome ≡ Refused DiskFault) ⊎ (outcome ≡ Refused Memory))

abbrev pub FollowsCut : ℕ → List Record → List Record → Type 0
FollowsCut generation marks rest = StillMarks marks rest ⊎ HasOutcome generation marks rest

abbrev pub MarksFollowCuts : Type 0
MarksFollowCuts =
    (schedule : Schedule) (start last g : Plain) (later : Requests) (trace : List Record) (generation : ℕ) →
    RunsTo schedule start trace last later → (cut : CutAt start trace generation g) → FollowsCut generation (cut_marks g) cut.rest

-- a cut's state has nothing on the way and nothing that no image holds, and its generation is above the
-- opening one
pub record IsCut (schedule : Schedule) (later : Requests) (generation : ℕ) (g : Plain) : Type 0 where
  pub held : CanBeHeld g
  pub arrived : full_arrive g ≡ g
  pub above : schedule.opening < generation
  pub most : generation ≤ later.tally.greatest

abbrev pub CutsAreCuts : Type 0
CutsAreCuts =
    (schedule : Schedule) (start last g : Plain) (later : Requests) (trace : List Record) (generation : ℕ) →
    RunsTo schedule start trace last later → CutAt start trace generation g → IsCut schedule later generation g

-- cuts of a trace that have one generation are at one state
abbrev pub CutsDiffer : Type 0
CutsDiffer =
    (schedule : Schedule) (start last g h : Plain) (later : Requests) (trace : List Record) (generation : ℕ) →
    RunsTo schedule start trace last later → CutAt start trace generation g → CutAt start trace generation h → g ≡ h

-- a cut stays one as the trace grows, and a new one is at the state there
abbrev pub CutStays : Type 0
CutStays = (start g : Plain) (trace more : List Record) (generation : ℕ) → CutAt start trace generation g → CutAt start (trace ++ more) generation g

abbrev pub CutIsMade : Type 0
CutIsMade = (start g : Plain) (trace : List Record) (generation : ℕ) → run start trace ≡ Some g → CutAt start (trace ++ Cut generation ∷ []) generation g

-- the record stands in the trace, and this is the state there
pub record StandsAt (start : Plain) (trace : List Record) (r : Record) (g : Plain) : Type 0 where
  pub front : List Record
  pub rest : List Record
  pub whole : trace ≡ front ++ r ∷ rest
  pub there : run start front ≡ Some g

-- a request lapses where nobody lives, and is refused for what no image holds, or else, also after its cut,
-- where an image would hold all that there is
abbrev pub FitsOutcome : Plain → Record → Type 0
FitsOutcome g Lapsed = ended g ≡ true
FitsOutcome g (Refused (Unsupported p fd kind)) = IsUnsupported g p fd kind
FitsOutcome g (Refused DiskFault) = CanBeHeld g
FitsOutcome g (Refused Memory) = CanBeHeld g
FitsOutcome g _ = Unit {0}

abbrev pub OutcomesFit : Type 0
OutcomesFit =
    (schedule : Schedule) (start last g : Plain) (later : Requests) (trace : List Record) (r : Record) →
    RunsTo schedule start trace last later → StandsAt start trace r g → FitsOutcome g r

-- the record that follows on these makes a request
pub record MakesRequest (schedule : Schedule) (start : Plain) (front : List Record) (r : Record) : Type 0 where
  pub state : Plain
  pub requests : Requests
  pub reaches : RunsTo schedule start front state requests
  pub answered : IsAnswered requests
  pub made : (next_requests schedule state requests r).phase ≡ Requested []

-- between two requests the first has its outcome, so that only the last of a trace can be open
abbrev pub OnlyLastIsOpen : Type 0
OnlyLastIsOpen =
    (schedule : Schedule) (start last : Plain) (later : Requests) (front mid rest : List Record) (r s : Record) →
    RunsTo schedule start (front ++ r ∷ (mid ++ s ∷ rest)) last later → MakesRequest schedule start front r → MakesRequest schedule start (front ++ r ∷ mid) s → list_any is_outcome mid ≡ true

-- a trace without a mark has an open request once it has as many work records as the schedule says, where
-- there is a generation left
abbrev pub StaysOpen : Type 0
StaysOpen =
    (schedule : Schedule) (start last : Plain) (later : Requests) (trace : List Record) (every : ℕ) →
    RunsTo schedule start trace last later → schedule.every ≡ Some every → 0 < every → schedule.opening < 2 ^ 64 - 2 → every ≤ count_by is_work trace → All (λ r. is_mark r ≡ false) trace →
    IsAnswered later → ⊥

-- where there are no channels, nothing is on the way and a cut has no marks
abbrev pub NoChannels : Type 0
NoChannels = (g : Plain) → map.entries g.kernel.directions ≡ [] → (full_arrive g ≡ g) × (cut_marks g ≡ [])

-- the log grows by the record's line
abbrev pub LogGrows : Type 0
LogGrows = (trace : List Record) (r : Record) → log_text (trace ++ r ∷ []) ≡ log_text trace ++ line_of (after_all log_start trace) r

-- How requests for checkpoints stand in a trace: when one is made, and which records may come from there to
-- its outcome.
--     MayStand g now r         the record may stand in a trace where the state is g and its requests have come this far
--     next_requests            how far they have come after the record
--     RunsTo                   the trace is a run whose records may all stand where they do, and it comes to this state and this far
--     IsAnswered               no request is open
--     CutAt                    the trace has the cut of a generation, and this is the state there
use Rattle.std.specs.Prelude.{◌≡◌, ◌==◌, ◌&&◌, ℕ, ◌+◌, ◌-◌, ◌%◌, ◌^◌, ◌<◌, Bool, true, false, not, nat_lt, List, [], ◌∷◌, ◌++◌, filter, length, Option, Some, None, is_some, IsSomeAnd, if◌then◌else◌}
use Rattle.std.specs.List.{filter_map}
use Rattle.std.specs.FinMap as map
use Rattle.sys_abi.specs.declared.identity.VPid.{VPid}
use Rattle.sys_abi.specs.declared.identity.Dir.{Dir}
use Rattle.sys_abi.specs.declared.identity.Fd.{Fd}
use Rattle.sys_abi.specs.declared.record.Kind.{Kind}
use Rattle.sys_abi.specs.declared.record.Record.{Record}
use Rattle.sys_abi.specs.declared.record.Record.TheVariants.{User, Call, Deliver, Arrive, Cut, Drained, Refilled, Complete, Refused, Lapsed}
use Rattle.sys_abi.specs.declared.record.Cause.TheVariants.{Unsupported, DiskFault, Memory}
use Rattle.plain_machine.specs.declared.plain.Plain.{Plain}
use Rattle.plain_tables.specs.declared.channel.Direction.{Direction}
use Rattle.plain_tables.specs.Tables.{slot}
use Rattle.plain_machine.specs.Records.{step}
use Rattle.plain_machine.specs.Runs.{run}
use Rattle.plain_machine.specs.Tests.{ended, full_arrive, unsupported}
use Rattle.trace_log.specs.declared.requests.Schedule.{Schedule}
use Rattle.trace_log.specs.declared.requests.Tally.{Tally}

-- a mark is about a checkpoint, and changes nothing
abbrev pub is_mark : Record → Bool
is_mark (User p t n) = false
is_mark (Call p t) = false
is_mark (Deliver p t s) = false
is_mark (Arrive dir n) = false
is_mark _ = true

-- a mark with which a request ends
abbrev pub is_outcome : Record → Bool
is_outcome (Complete generation) = true
is_outcome (Refused cause) = true
is_outcome Lapsed = true
is_outcome _ = false

-- before the first record
abbrev pub first_tally : Schedule → Tally
first_tally schedule = record { work = 0; greatest = schedule.opening; is_unfinished = false }

abbrev pub one_more_work : Tally → Tally
one_more_work tally = record tally { work = tally.work + 1 }

-- the count goes on at each work record, a cut has the greatest generation so far, and its set is finished
-- once it is complete
unfoldable pub tally_after : Tally → Record → Tally
tally_after tally (User p t n) = one_more_work tally
tally_after tally (Call p t) = one_more_work tally
tally_after tally (Deliver p t s) = one_more_work tally
tally_after tally (Cut generation) = record tally { greatest = generation; is_unfinished = true }
tally_after tally (Complete generation) = record tally { is_unfinished = false }
tally_after tally _ = tally

abbrev pub is_multiple_of : Option ℕ → ℕ → Bool
is_multiple_of None n = false
is_multiple_of (Some every) n = n % every == 0

-- the work record just counted asks for a checkpoint, unless a request is open: their number is a multiple of
-- `every`, and there is a generation left
unfoldable pub asks : Schedule → Tally → Bool
asks schedule tally = is_multiple_of schedule.every tally.work && nat_lt tally.greatest (2 ^ 64 - 2)

pub data Phase : Type 0 where
  NoRequest : Phase
  -- a request waits for all processes to be suspended; these made the work records since, the latest first
  Requested : List VPid → Phase
  -- the cut was made. These marks must still come, and then the outcome
  AfterCut : List Record → Phase

-- how far the requests of a trace have come
pub record Requests : Type 0 where
  pub tally : Tally
  pub phase : Phase

abbrev pub first_requests : Schedule → Requests
first_requests schedule = record { tally = first_tally schedule; phase = NoRequest }

abbrev pub IsAnswered : Requests → Type 0
IsAnswered now = now.phase ≡ NoRequest

-- the directions with bytes left, in rising order, each with their number
abbrev pub left_in : (Dir → ℕ → Record) → Dir × Direction → Option Record
left_in mark entry = if length entry.1.left == 0 then None else Some (mark entry.0 (length entry.1.left))

abbrev pub all_left : (Dir → ℕ → Record) → Plain → List Record
all_left mark g = filter_map (left_in mark) (map.entries g.kernel.directions)

-- the marks between a cut at this state and its outcome
unfoldable pub cut_marks : Plain → List Record
cut_marks g = all_left Drained g ++ all_left Refilled g

-- how many work records the process has made since
abbrev pub records_made_by : VPid → List VPid → ℕ
records_made_by p since = length (filter (λ q. q.0 == p.0) since)

-- somebody lives, and an image holds all that there is
pub record CanBeHeld (g : Plain) : Type 0 where
  pub lives : ended g ≡ false
  pub supported : unsupported g ≡ None

abbrev pub can_be_held : Plain → Bool
can_be_held g = not (ended g) && not (is_some (unsupported g))

-- somebody lives, and this is the first that no image holds
abbrev pub IsUnsupported : Plain → VPid → Fd → Kind → Type 0
IsUnsupported g p fd kind =
    (ended g ≡ false) × (unsupported g ≡ Some (record { slot = slot p fd.0; kind = kind }))

-- what may come while a request waits: at most two work records of each process, those that were made
-- meanwhile included, and arrivals. Then the cut, at which all bytes have arrived, or a refusal, or that
-- nobody lives
abbrev pub MayAnswer : Plain → Tally → List VPid → Record → Type 0
MayAnswer g tally since (User p t n) = records_made_by p since < 2
MayAnswer g tally since (Call p t) = records_made_by p since < 2
MayAnswer g tally since (Deliver p t s) = records_made_by p since < 2
MayAnswer g tally since (Arrive dir n) = Unit {0}
MayAnswer g tally since (Cut next) = CanBeHeld g × (full_arrive g ≡ g) × (next ≡ tally.greatest + 1)
MayAnswer g tally since (Refused (Unsupported p fd kind)) = IsUnsupported g p fd kind
MayAnswer g tally since (Refused DiskFault) = CanBeHeld g
MayAnswer g tally since (Refused Memory) = CanBeHeld g
MayAnswer g tally since Lapsed = ended g ≡ true
MayAnswer g tally since _ = ⊥

-- a cut's outcome: its set is complete, or it was refused
abbrev pub MayFinish : Tally → Record → Type 0
MayFinish tally (Complete generation) = generation ≡ tally.greatest
MayFinish tally (Refused DiskFault) = Unit {0}
MayFinish tally (Refused Memory) = Unit {0}
MayFinish tally _ = ⊥

abbrev pub MayStandIn : Phase → Plain → Tally → Record → Type 0
MayStandIn NoRequest g tally r = is_mark r ≡ false
MayStandIn (Requested since) g tally r = MayAnswer g tally since r
MayStandIn (AfterCut (mark ∷ still)) g tally r = r ≡ mark
MayStandIn (AfterCut []) g tally r = MayFinish tally r

unfoldable pub MayStand : Plain → Requests → Record → Type 0
MayStand g now r = MayStandIn now.phase g now.tally r

-- after a work record of this process, which asks for a checkpoint or doesn't
abbrev pub phase_after_work : Phase → Bool → VPid → Phase
phase_after_work NoRequest asked p = if asked then Requested [] else NoRequest
phase_after_work (Requested since) asked p = Requested (p ∷ since)
phase_after_work (AfterCut still) asked p = AfterCut still

-- after a mark other than a cut
abbrev pub phase_after_mark : Phase → Phase
phase_after_mark NoRequest = NoRequest
phase_after_mark (Requested since) = NoRequest
phase_after_mark (AfterCut (mark ∷ still)) = AfterCut still
phase_after_mark (AfterCut []) = NoRequest

abbrev pub phase_after : Phase → Bool → Plain → Record → Phase
phase_after phase asked g (User p t n) = phase_after_work phase asked p
phase_after phase asked g (Call p t) = phase_after_work phase asked p
phase_after phase asked g (Deliver p t s) = phase_after_work phase asked p
phase_after phase asked g (Arrive dir n) = phase
phase_after phase asked g (Cut generation) = AfterCut (cut_marks g)
phase_after phase asked g _ = phase_after_mark phase

-- g is the state before the record
unfoldable pub next_requests : Schedule → Plain → Requests → Record → Requests
next_requests schedule g now r =
    let tally = tally_after now.tally r in
    record { tally = tally; phase = phase_after now.phase (asks schedule tally) g r }

-- from this state and thus far, the records are steps that may stand where they do, to that state and thus
-- far
unfoldable pub LeadsTo : Schedule → Plain → Requests → List Record → Plain → Requests → Type 0
LeadsTo schedule g now [] last later = (g ≡ last) × (now ≡ later)
LeadsTo schedule g now (r ∷ rest) last later =
    MayStand g now r
    × IsSomeAnd (step g r) (λ next. LeadsTo schedule next (next_requests schedule g now r) rest last later)

abbrev pub RunsTo : Schedule → Plain → List Record → Plain → Requests → Type 0
RunsTo schedule start trace last later = LeadsTo schedule start (first_requests schedule) trace last later

-- the front of the trace before the cut leads to the state
pub record CutAt (start : Plain) (trace : List Record) (generation : ℕ) (g : Plain) : Type 0 where
  pub front : List Record
  pub rest : List Record
  pub whole : trace ≡ front ++ Cut generation ∷ rest
  pub there : run start front ≡ Some g

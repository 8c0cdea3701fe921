-- One record of a run, with what its checkpointer knows and what the folder has come to.
--     arrived     after an arrival no request is open
--     worked      after a record of work one waits where it asked for a checkpoint
--     spoilt      a record of work broke off
--     stays_come  how far the round has come, where a checkpoint follows the record
use Rattle.std.proofs.Common.{◌≡◌, ℕ, zero, suc, ◌+◌, ◌≤◌, Bool, true, false, cond, List, [], ◌∷◌, ◌++◌, length, Option, Some, inl, refl, sym, ap, subst, ◌∙◌, arith, append-nil}
use Rattle.std.specs.List.{Contains}
use Rattle.views.proofs.MapLaws.{true_false}
use Rattle.sys_abi.specs.declared.identity.Dir.{Dir}
use Rattle.sys_abi.specs.declared.record.Record.{Record}
use Rattle.sys_abi.specs.declared.record.Record.TheVariants.{User, Call, Deliver, Arrive, Cut, Drained, Refilled, Complete, Refused, Lapsed}
use Rattle.edge_io.specs.Sink.{appended}
use Rattle.edge_io.specs.Sunk.{Sunk, sunk, Took}
use Rattle.disk_folder.specs.SeenFolder.{SeenFolder}
use Rattle.plain_machine.specs.declared.plain.Plain.{Plain}
use Rattle.plain_machine.specs.Tests.{is_work}
use Rattle.trace_log.specs.declared.requests.Schedule.{Schedule}
use Rattle.trace_log.specs.declared.requests.Tally.{Tally}
use Rattle.trace_log.specs.Trace.{TraceState}
use Rattle.trace_log.specs.LogText.{at_start as log_start, after_all, log_text}
use Rattle.trace_log.specs.Requests.{Requests, Phase, NoRequest, Requested, IsAnswered, is_mark, one_more_work, tally_after, asks, phase_after, next_requests}
use Rattle.trace_log.proofs.LogLines.{log_grows}
use Rattle.trace_log.specs.Turns.{Due, Arrival, Upcoming, After, coming, due_at, is_due_at}
use Rattle.drive.specs.declared.rounds.Come.{Come}
use Rattle.drive.specs.declared.rounds.Come.TheVariants as has_come
use Rattle.drive.specs.declared.rounds.Made.{Made}
use Rattle.drive.specs.declared.rounds.Rounds.{Rounds}
use Rattle.drive.specs.Scheduling.{IsCome, IsComeSo, Notes, Spoils}
use Rattle.checkpointer.specs.declared.checkpointer.Checkpointer.{Checkpointer}
use Rattle.checkpointer.specs.Keeping.{is_disk_fault, IsSafe}
use Rattle.checkpointer.specs.Running.{IsNoted}
use Rattle.checkpointer.specs.UnderWay.{IsUnderWay, WaitsIfAsked}
use Rattle.checkpointer.proofs.Running.{no_line, noted_on, work_counts, work_no_mark}
use Rattle.checkpointer.proofs.Safety.{safe_quiet}
use Rattle.checkpointer.proofs.Sinks.{took_front}
use Rattle.drive.specs.declared.loop_end.LoopEnd.TheVariants as loop_ended
use Rattle.drive.specs.Going.{HasEnded}
use Rattle.drive.proofs.Records.{grows, breaks}

-- a record that is no mark has no line on the log and no set

no_set : (r : Record) → is_mark r ≡ false → (generation : ℕ) → Contains (r ∷ []) (Complete generation) → ⊥
no_set r plain generation (zero, below, is) = true_false (sym (ap is_mark is) ∙ plain)
no_set r plain generation (suc k, below, is) = omega arith

no_fault : (r : Record) → is_mark r ≡ false → is_disk_fault r ≡ false
no_fault (User p t n) plain = refl
no_fault (Call p t) plain = refl
no_fault (Deliver p t s) plain = refl
no_fault (Arrive dir n) plain = refl
no_fault (Cut generation) plain = refl
no_fault (Drained dir n) plain = refl
no_fault (Refilled dir n) plain = refl
no_fault (Complete generation) plain = refl
no_fault (Refused cause) plain = true_false plain
no_fault Lapsed plain = refl

arrival_counts : (r : Record) (tally : Tally) → is_mark r ≡ false → is_work r ≡ false → tally_after tally r ≡ tally
unfolding tally_after
arrival_counts (Arrive dir n) tally plain idle = refl
arrival_counts (User p t n) tally plain idle = true_false idle
arrival_counts (Call p t) tally plain idle = true_false idle
arrival_counts (Deliver p t s) tally plain idle = true_false idle
arrival_counts _ tally plain idle = true_false plain

-- the phase after it, where no request was open

abbrev phase_then : Bool → Plain → Record → Phase
phase_then asked g r = phase_after NoRequest asked g r

waits_then : (schedule : Schedule) (tally : Tally) (g : Plain) (r : Record) → is_work r ≡ true → phase_then (asks schedule tally) g r ≡ cond (asks schedule tally) (Requested []) NoRequest
waits_then schedule tally g (User p t n) work = refl
waits_then schedule tally g (Call p t) work = refl
waits_then schedule tally g (Deliver p t s) work = refl
waits_then schedule tally g _ work = true_false (sym work)

free_then : (asked : Bool) (g : Plain) (r : Record) → is_mark r ≡ false → is_work r ≡ false → phase_then asked g r ≡ NoRequest
free_then asked g (Arrive dir n) plain idle = refl
free_then asked g (User p t n) plain idle = true_false idle
free_then asked g (Call p t) plain idle = true_false idle
free_then asked g (Deliver p t s) plain idle = true_false idle
free_then asked g _ plain idle = true_false plain

module _ (schedule : Schedule) (g : Plain) (r : Record) (requests : Requests) (free : IsAnswered requests) where
  pub work_waits : is_work r ≡ true → WaitsIfAsked schedule (next_requests schedule g requests r)
  unfolding next_requests
  work_waits work = ap (λ phase. phase_after phase (asks schedule (tally_after requests.tally r)) g r) free ∙ waits_then schedule (tally_after requests.tally r) g r work

  pub arrival_frees : is_mark r ≡ false → is_work r ≡ false → IsAnswered (next_requests schedule g requests r)
  unfolding next_requests
  arrival_frees plain idle = ap (λ phase. phase_after phase (asks schedule (tally_after requests.tally r)) g r) free ∙ free_then (asks schedule (tally_after requests.tally r)) g r plain idle

-- after a record, what was asked for waits
pub record Turned (schedule : Schedule) (g h : Plain) (upcoming : Upcoming) (checkpointer : Checkpointer) (trace : TraceState) (sink log : Sunk) (first disk : SeenFolder) : Type 0 where
  pub now : IsUnderWay schedule g h upcoming checkpointer trace sink log first disk
  pub waits : WaitsIfAsked schedule now.running.requests

pub record Arrived (schedule : Schedule) (g h : Plain) (upcoming : Upcoming) (checkpointer : Checkpointer) (trace : TraceState) (sink log : Sunk) (first disk : SeenFolder) : Type 0 where
  pub now : IsUnderWay schedule g h upcoming checkpointer trace sink log first disk
  pub free : IsAnswered now.running.requests

module _ (schedule : Schedule) (g h : Plain) (upcoming : Upcoming) (d : Due) (checkpointer : Checkpointer) (from to : TraceState) (had mid has : Option (List ℕ)) (log : Sunk) (first disk : SeenFolder)
    (before : IsUnderWay schedule g h upcoming checkpointer from (sunk had mid) log first disk) (free : IsAnswered before.running.requests) (there : due_at h upcoming ≡ Some d) where
  module _ (k : Plain) (made : Made) (notes : Notes h k (Some d) made from to (sunk mid has)) where
    abbrev r : Record
    r = notes.noted

    abbrev Grown : Checkpointer → Type 0
    Grown later =
        (after : IsUnderWay schedule g k (After d r) later to (sunk had has) log first disk) × (after.running.requests ≡ next_requests schedule h before.running.requests r)

    records : from.records ++ r ∷ [] ≡ to.records
    records = sym (ap (λ (t : TraceState). t.records) notes.took.trace)

    grown : (later : Checkpointer) → later.schedule ≡ checkpointer.schedule → later.lines ≡ checkpointer.lines → later.tally ≡ tally_after checkpointer.tally r → Grown later
    grown later scheduled lined tallied =
        let running = grows schedule g h upcoming d from to had mid has before.running free there k made notes in
        let noted = noted_on schedule h r before.running.requests checkpointer later from.records log before.noted notes.no_mark scheduled lined tallied (λ _. free) in (
          record {
            running = running.0;
            noted = subst (λ (q : Requests). IsNoted schedule q later to.records log) (sym running.1) (subst (λ rs. IsNoted schedule (next_requests schedule h before.running.requests r) later rs log) records noted);
            safe = subst (λ rs. IsSafe g rs first disk) records (safe_quiet g from.records r first disk (no_set r notes.no_mark) (no_fault r notes.no_mark) before.safe);
          },
          running.1,
        )

    pub worked : is_work r ≡ true → (later : Checkpointer) → later ≡ record checkpointer { tally = one_more_work checkpointer.tally } → Turned schedule g k (After d r) later to (sunk had has) log first disk
    worked work later counted =
        let after = grown later (ap (λ (c : Checkpointer). c.schedule) counted) (ap (λ (c : Checkpointer). c.lines) counted) (ap (λ (c : Checkpointer). c.tally) counted ∙ sym (work_counts r checkpointer.tally work)) in
        record { now = after.0; waits = subst (WaitsIfAsked schedule) (sym after.1) (work_waits schedule h r before.running.requests free work) }

    pub arrived : is_work r ≡ false → Arrived schedule g k (After d r) checkpointer to (sunk had has) log first disk
    arrived idle =
        let after = grown checkpointer refl refl (sym (arrival_counts r checkpointer.tally notes.no_mark idle)) in
        record { now = after.0; free = ap (λ (q : Requests). q.phase) after.1 ∙ arrival_frees schedule h r before.running.requests free notes.no_mark idle }

  -- the console took a first part of what the record writes
  pub spoilt : (room : ℕ) (k : Plain) → Spoils h k (Some d) from to (sunk mid has) → length from.records + 1 ≤ room → HasEnded loop_ended.SinkFault schedule g room to.records k (sunk had has) log first disk
  spoilt room k spoils fits =
      let r = spoils.noted in
      let plain = work_no_mark r spoils.work in
      let broken = breaks schedule g h upcoming d from to had mid has before.running free there room k spoils plain fits in
      let same : log_text (from.records ++ r ∷ []) ≡ log_text from.records =
      log_grows from.records r ∙ ap (λ line. log_text from.records ++ line) (no_line (after_all log_start from.records) r plain) ∙ append-nil (log_text from.records) in
      let logged : Took log (log_text to.records) =
      subst (λ (t : TraceState). Took log (log_text t.records)) (sym spoils.broke.trace) (before.noted.logged ∙ ap (appended log.before) (sym same)) in
      record {
        ends = (broken.0, took_front log (log_text to.records) logged);
        left = (spoils.broke.state, (broken.3, spoils.broke.kernel));
        pace = inl (broken.1, logged);
        in_rounds = broken.2;
        safe = subst (λ (t : TraceState). IsSafe g t.records first disk) (sym spoils.broke.trace) (safe_quiet g from.records r first disk (no_set r plain) (no_fault r plain) before.safe);
      }

-- where a record of work came the round has come past it at any state
pub stays_come : (rounds : Rounds) (g h now : Plain) (d : Due) (r : Record) → is_due_at g (Some d) r ≡ true → is_work r ≡ true → IsCome rounds h (After d r) → IsCome rounds now (After d r)
unfolding IsComeSo
stays_come rounds g h now d r own work come = by rounds.come come
  where
    no_arrival : (dir : Dir) (dirs : List Dir) (r : Record) → is_due_at g (Some (Arrival dir dirs)) r ≡ true → is_work r ≡ true → ⊥
    no_arrival dir dirs (Arrive other n) own work = true_false (sym work)
    no_arrival dir dirs _ own work = true_false (sym own)

    by : (c : Come) → IsComeSo c rounds h (After d r) → IsComeSo c rounds now (After d r)
    by has_come.NewRound come = absurd (cc)
    by has_come.Arrived (dir, (other, is)) =
        let same : d ≡ Arrival dir (coming h) = cc in
        absurd (no_arrival dir (coming h) r (subst (λ due. is_due_at g (Some due) r ≡ true) same own) work)
    by (has_come.Worked turn did) come = come

-- A call to its end, from what beginning a run and the run promise.
--     from_ok, from_err            whether the trace has its room
--     begun_refused                no run was begun
--     begun_arrives                a run was begun, and came to its end
--     every_is_some, every_is_none     a checkpoint is asked for after one record of work or more, or none is
--     quiet_every                  a quiet job asks for none
--     begun_ready                  the run can be driven
--     refusal_is_no_end            where no run was begun it is not done
--     memory_is_other              nor is it where memory is wanted
--     carried_out                  what a run leaves
--     sink_told, no_input, no_disk     which status is told of a run
use Rattle.std.proofs.Common.{◌≡◌, ◌≢◌, ℕ, ◌<◌, true, List, [], Option, Some, None, inl, inr, refl, sym, ap, subst, ◌∙◌}
use Rattle.std.specs.Prelude.{◌⊎◌, IfErr, IfSome, Result, Ok, Err, OnOk, OnErr, is_ok, is_err}
use Rattle.sys_abi.specs.declared.record.Record.{Record}
use Rattle.edge_io.specs.Inputs.{NamedFiles}
use Rattle.edge_io.specs.Sunk.{Sunk, Took}
use Rattle.disk_folder.specs.Files.{FolderFiles as Folder}
use Rattle.disk_folder.specs.SeenFolder.{SeenFolder}
use Rattle.trace_log.specs.declared.requests.Schedule.{Schedule}
use Rattle.plain_machine.specs.declared.kernel.PlainKernel.{PlainKernel}
use Rattle.option_words.specs.Options.{Text}
use Rattle.endings.specs.declared.status.Status.{Status}
use Rattle.endings.specs.declared.status.Status.TheVariants.{Done as IsDone, InputFault as IsInputFault, SinkFault as IsSinkFault, DiskFault as IsDiskFault}
use Rattle.endings.specs.declared.ending.Ending.{Ending}
use Rattle.endings.specs.declared.ending.Ending.TheVariants as an_ending
use Rattle.endings.specs.Endings.{status_of}
use Rattle.job_words.specs.declared.job.Job.{Job}
use Rattle.job_words.specs.declared.job.LaunchJob.{LaunchJob}
use Rattle.job_words.specs.declared.job.Job.TheVariants.{Launch, Restart, Ring, Help}
use Rattle.job_words.proofs.JobFacts.{launch_every, restart_every}
use Rattle.drive.specs.HandedOn.{GoesInRounds}
use Rattle.drive.specs.declared.loop_end.LoopEnd.{LoopEnd}
use Rattle.drive.specs.RunEnds.{EndsRun, KernelAtEnd}
use Rattle.drive.specs.declared.loop_end.LoopEnd.TheVariants.{Done as LoopDone, Budget as LoopBudget, Stuck as LoopStuck, SinkFault as LoopSinkFault, Memory as LoopMemory}
use Rattle.drive.specs.declared.run_status.RunStatus.{RunStatus}
use Rattle.drive.specs.declared.run_status.RunStatus.TheVariants.{Ended, SinkFault}
use Rattle.drive.specs.declared.run_status.RunEnd.TheVariants.{Done, Stuck, Budget, Memory}
use Rattle.drive.specs.Driving.{CanDrive, StandsAtEnd, end_told}
use Rattle.dmtcp_top.specs.declared.start.Start.{Start}
use Rattle.dmtcp_top.specs.Endings.{IsAtEnding, IsCarriedOut, IsLeft, KeepsPaceAt, ending_by}
use Rattle.dmtcp_top.specs.Jobs.{Asks, IsQuiet, settings_of}
use Rattle.dmtcp_top.specs.Loads.{Begins, HasStore, IsReady, RefusesLaunch, RefusesRestart, plain_of}
use Rattle.dmtcp_top.specs.Promise.{StaysWhole}
use Rattle.dmtcp_top.specs.Sessions.{Beginning, Outside, Session, given, log_in, session, session_in}
use Rattle.dmtcp_top.proofs.Arrivals.{beginning_of, launch_arrives, launch_refused, restart_arrives, restart_refused}

pub from_ok : {A E P : Type 0} (r : Result A E) → is_ok r ≡ true → OnOk r P → P
from_ok (Ok a) ok p = p
from_ok (Err e) ok p = absurd (cc)

pub from_err : {A E P : Type 0} (r : Result A E) → true ≡ is_err r → OnErr r P → P
from_err (Ok a) err p = absurd (cc)
from_err (Err e) err p = p

module _ (words : List (List ℕ)) (files : Option NamedFiles) (folder : Option Folder) (trace : List Record) (console log : Sunk) where
  pub begun_refused : (job : Job) (ending : Ending) → Asks words job → Begins (Err ending) job files folder → trace ≡ [] → Took console [] → Took log [] → IsAtEnding ending (session (given words files folder) None trace console) log
  begun_refused (Launch job) ending asks refuses none quiet unlogged = launch_refused words files folder trace console log none quiet unlogged ending job asks refuses
  begun_refused (Restart job) ending asks refuses none quiet unlogged = restart_refused words files folder trace console log none quiet unlogged ending job asks refuses
  begun_refused (Ring job) ending asks refuses none quiet unlogged = absurd refuses
  begun_refused Help ending asks refuses none quiet unlogged = absurd refuses

  by_job : (end : LoopEnd) (start : Start) (job : Job) (room : ℕ) → Asks words job → Begins (Ok start) job files folder → room ≡ (settings_of job).records
      → EndsRun end start.checkpoints.schedule (plain_of start) room trace console log → IsAtEnding (ending_by end (settings_of job).records) (session (given words files folder) (Some (beginning_of start)) trace console) log
  by_job end start (Launch job) room asks begins full ends = launch_arrives words files folder trace console log end start job room asks begins full ends
  by_job end start (Restart job) room asks begins full ends = restart_arrives words files folder trace console log end start job room asks begins full ends
  by_job end start (Ring job) room asks begins full ends = absurd begins
  by_job end start Help room asks begins full ends = absurd begins

  pub begun_arrives : (end : LoopEnd) (start : Start) (job : Job) (room records : ℕ) → Asks words job → Begins (Ok start) job files folder → room ≡ records → records ≡ (settings_of job).records
      → EndsRun end start.checkpoints.schedule (plain_of start) room trace console log → IsAtEnding (ending_by end records) (session (given words files folder) (Some (beginning_of start)) trace console) log
  begun_arrives end start job room records asks begins full same ends =
      subst (λ n. IsAtEnding (ending_by end n) (session (given words files folder) (Some (beginning_of start)) trace console) log) (sym same)
      (by_job end start job room asks begins (full ∙ same) ends)

scheduled : (schedule : Schedule) (every : Option ℕ) → schedule.every ≡ every → IfSome every (λ n. 0 < n) → IfSome schedule.every (λ n. 0 < n)
scheduled schedule every is some = subst (λ o. IfSome o (λ n. 0 < n)) (sym is) some

pub every_is_some : (words : List (List ℕ)) (files : Option NamedFiles) (folder : Option Folder) (start : Start) (job : Job) → Asks words job → Begins (Ok start) job files folder → IfSome start.checkpoints.schedule.every (λ every. 0 < every)
every_is_some words files folder start (Launch job) asks begins = scheduled start.checkpoints.schedule job.every (ap (λ (s : Schedule). s.every) begins.schedule) (launch_every words job asks.is)
every_is_some words files folder start (Restart job) asks begins = scheduled start.checkpoints.schedule job.every (ap (λ (s : Schedule). s.every) begins.schedule) (restart_every words job asks.is)
every_is_some words files folder start (Ring job) asks begins = absurd begins
every_is_some words files folder start Help asks begins = absurd begins

pub every_is_none : (job : Job) (files : Option NamedFiles) (folder : Option Folder) (start : Start) → Begins (Ok start) job files folder → (settings_of job).every ≡ None → start.checkpoints.schedule.every ≡ None
every_is_none (Launch job) files folder start begins none = ap (λ (s : Schedule). s.every) begins.schedule ∙ none
every_is_none (Restart job) files folder start begins none = ap (λ (s : Schedule). s.every) begins.schedule ∙ none
every_is_none (Ring job) files folder start begins none = absurd begins
every_is_none Help files folder start begins none = absurd begins

pub quiet_every : (job : Job) → IsQuiet job → (settings_of job).every ≡ None
quiet_every (Launch job) quiet = quiet
quiet_every (Restart job) quiet = absurd quiet
quiet_every (Ring job) quiet = absurd quiet
quiet_every Help quiet = refl

launch_no_end : (ending : Ending) (files : Option NamedFiles) (job : LaunchJob) → RefusesLaunch ending files job → status_of ending ≢ IsDone
launch_no_end an_ending.Done files job why = absurd why
launch_no_end an_ending.Usage files job why = λ e. absurd (cc)
launch_no_end (an_ending.InputFault who) files job why = λ e. absurd (cc)
launch_no_end (an_ending.Missing who) files job why = λ e. absurd (cc)
launch_no_end (an_ending.BadElf who fault) files job why = λ e. absurd (cc)
launch_no_end an_ending.TooBig files job why = λ e. absurd (cc)
launch_no_end an_ending.SinkFault files job why = λ e. absurd (cc)
launch_no_end an_ending.DiskFault files job why = λ e. absurd (cc)
launch_no_end an_ending.NoSet files job why = λ e. absurd (cc)
launch_no_end (an_ending.Damaged slot damage) files job why = λ e. absurd (cc)
launch_no_end (an_ending.Budget records) files job why = λ e. absurd (cc)
launch_no_end an_ending.Stuck files job why = λ e. absurd (cc)
launch_no_end an_ending.Memory files job why = λ e. absurd (cc)

restart_no_end : (ending : Ending) (folder : Option Folder) → RefusesRestart ending folder → status_of ending ≢ IsDone
restart_no_end an_ending.Done folder why = absurd why
restart_no_end an_ending.Usage folder why = λ e. absurd (cc)
restart_no_end (an_ending.InputFault who) folder why = λ e. absurd (cc)
restart_no_end (an_ending.Missing who) folder why = λ e. absurd (cc)
restart_no_end (an_ending.BadElf who fault) folder why = λ e. absurd (cc)
restart_no_end an_ending.TooBig folder why = λ e. absurd (cc)
restart_no_end an_ending.SinkFault folder why = λ e. absurd (cc)
restart_no_end an_ending.DiskFault folder why = λ e. absurd (cc)
restart_no_end an_ending.NoSet folder why = λ e. absurd (cc)
restart_no_end (an_ending.Damaged slot damage) folder why = λ e. absurd (cc)
restart_no_end (an_ending.Budget records) folder why = λ e. absurd (cc)
restart_no_end an_ending.Stuck folder why = λ e. absurd (cc)
restart_no_end an_ending.Memory folder why = λ e. absurd (cc)

pub refusal_is_no_end : (job : Job) (ending : Ending) (files : Option NamedFiles) (folder : Option Folder) → Begins (Err ending) job files folder → status_of ending ≢ IsDone
refusal_is_no_end (Launch job) ending files folder why = launch_no_end ending files job why
refusal_is_no_end (Restart job) ending files folder why = restart_no_end ending folder why
refusal_is_no_end (Ring job) ending files folder why = absurd why
refusal_is_no_end Help ending files folder why = absurd why

pub memory_is_other : status_of an_ending.Memory ≢ IsDone
memory_is_other = λ e. absurd (cc)

-- what a driver is given of a run that was begun
ready_for : (job : Job) (files : Option NamedFiles) (folder : Option Folder) (start : Start) → Begins (Ok start) job files folder → IsReady start
ready_for (Launch job) files folder start begins = begins.ready
ready_for (Restart job) files folder start begins = begins.ready
ready_for (Ring job) files folder start begins = absurd begins
ready_for Help files folder start begins = absurd begins

pub begun_ready : (words : List (List ℕ)) (files : Option NamedFiles) (folder : Option Folder) (start : Start) (job : Job) (seen : SeenFolder) → Asks words job → Begins (Ok start) job files folder → HasStore start.checkpoints seen
    → CanDrive start.system start.guests start.checkpoints.schedule start.checkpoints.store seen
begun_ready words files folder start job seen asks begins has =
    let ready = ready_for job files folder start begins in
    record {
      valid = ready.valid;
      numbered = ready.numbered;
      every = every_is_some words files folder start job asks begins;
      stored = has.stored;
      follows = has.follows;
      fits = has.fits;
    }

-- how a run ended is told by the ending, which is Done where nobody lives and nowhere else
ending_is_other : (end : LoopEnd) (records : ℕ) → end ≢ LoopDone → status_of (ending_by end records) ≢ IsDone
ending_is_other LoopDone records other = absurd (other refl)
ending_is_other LoopBudget records other = λ e. absurd (cc)
ending_is_other LoopStuck records other = λ e. absurd (cc)
ending_is_other LoopSinkFault records other = λ e. absurd (cc)
ending_is_other LoopMemory records other = λ e. absurd (cc)

if_there : (back : Option PlainKernel) (system : PlainKernel) (P : PlainKernel → Type 0) → back ≡ Some system → IfSome back P → P system
if_there back system P is holds = subst (λ o. IfSome o P) is holds

module _ (words : List Text) (trace : List Record) (before now : Outside) (begun : Beginning) (end : LoopEnd) (records : ℕ) (back : Option PlainKernel) where
  abbrev called : Session
  called = session_in words (Some begun) trace before now

  pub carried_out : (result : Result PlainKernel Ending) → IsLeft result back end records
      → IsAtEnding (ending_by end records) called (log_in before now)
      → KeepsPaceAt (ending_by end records) called (log_in before now)
      → GoesInRounds begun.schedule begun.state trace
      → StaysWhole (Some begun) trace before.folder now.folder
      → StandsAtEnd begun.state trace back
      → IsCarriedOut result words trace before now
  carried_out (Ok system) left there pace in_rounds whole stands = record {
    come = record {
      start = Some begun;
      there = subst (λ (e : LoopEnd). IsAtEnding (ending_by e records) called (log_in before now)) left.1 there;
      pace = tt;
      in_rounds = in_rounds;
      whole = whole;
    };
    state = if_there back system (KernelAtEnd begun.state trace) left.0 stands;
  }
  carried_out (Err ending) left there pace in_rounds whole stands = record {
    come = record {
      start = Some begun;
      there = subst (λ (e : Ending). IsAtEnding e called (log_in before now)) (sym left.0) there;
      pace = subst (λ (e : Ending). KeepsPaceAt e called (log_in before now)) (sym left.0) pace;
      in_rounds = in_rounds;
      whole = whole;
    };
    other = λ done. ending_is_other end records left.1 (sym (ap status_of left.0) ∙ done);
  }

-- which status is told of a run's end
told_by : {P : Type 0} (result : Result PlainKernel Ending) (back : Option PlainKernel) (end : LoopEnd) (records : ℕ) (wanted : Status) → IsLeft result back end records
    → (status_of (ending_by end records) ≡ wanted → P) → IfErr result (λ ending. status_of ending ≡ wanted → P)
told_by (Ok system) back end records wanted left holds = tt
told_by (Err ending) back end records wanted left holds = λ is. holds (sym (ap status_of left.0) ∙ is)

sink_by : (status : RunStatus) (records : ℕ) → status_of (ending_by (end_told status) records) ≡ IsSinkFault → status ≡ SinkFault
sink_by SinkFault records is = refl
sink_by (Ended Done) records is = absurd (cc)
sink_by (Ended Budget) records is = absurd (cc)
sink_by (Ended Stuck) records is = absurd (cc)
sink_by (Ended Memory) records is = absurd (cc)

inside_alone : {P : Type 0} (end : LoopEnd) (records : ℕ) (wanted : Status) → (wanted ≡ IsInputFault) ⊎ (wanted ≡ IsDiskFault) → status_of (ending_by end records) ≡ wanted → P
inside_alone LoopDone records wanted (inl a) is = absurd (cc)
inside_alone LoopDone records wanted (inr b) is = absurd (cc)
inside_alone LoopBudget records wanted (inl a) is = absurd (cc)
inside_alone LoopBudget records wanted (inr b) is = absurd (cc)
inside_alone LoopStuck records wanted (inl a) is = absurd (cc)
inside_alone LoopStuck records wanted (inr b) is = absurd (cc)
inside_alone LoopSinkFault records wanted (inl a) is = absurd (cc)
inside_alone LoopSinkFault records wanted (inr b) is = absurd (cc)
inside_alone LoopMemory records wanted (inl a) is = absurd (cc)
inside_alone LoopMemory records wanted (inr b) is = absurd (cc)

pub sink_told : {P : Type 0} (result : Result PlainKernel Ending) (back : Option PlainKernel) (status : RunStatus) (records : ℕ) → IsLeft result back (end_told status) records → (status ≡ SinkFault → P) → IfErr result (λ ending. status_of ending ≡ IsSinkFault → P)
sink_told result back status records left holds = told_by result back (end_told status) records IsSinkFault left (λ is. holds (sink_by status records is))

pub no_input : (P : Type 0) (result : Result PlainKernel Ending) (back : Option PlainKernel) (end : LoopEnd) (records : ℕ) → IsLeft result back end records → IfErr result (λ ending. status_of ending ≡ IsInputFault → P)
no_input P result back end records left = told_by result back end records IsInputFault left (inside_alone end records IsInputFault (inl refl))

pub no_disk : (P : Type 0) (result : Result PlainKernel Ending) (back : Option PlainKernel) (end : LoopEnd) (records : ℕ) → IsLeft result back end records → IfErr result (λ ending. status_of ending ≡ IsDiskFault → P)
no_disk P result back end records left = told_by result back end records IsDiskFault left (inside_alone end records IsDiskFault (inr refl))

-- How a ring comes to its end, before the log has its last line.
--     HalfEnds result words trace before now     a half: how it came to its end, and what its run left in the file
--                                                of the value
--     HalvesEnd result ring ..                   both halves, or how one of them ended the ring
--     Telling ending line console                the line that tells the values was put
--     RingComesToEnd ending ring ..              the ring
use Rattle.std.specs.Prelude.{◌≡◌, ◌⊎◌, ℕ, List, [], codes, Some, None, Result, Ok, Err, IfSome}
use Rattle.sys_abi.specs.declared.record.Record.{Record}
use Rattle.edge_io.specs.Sink.{SeenSink}
use Rattle.edge_io.specs.Sunk.{Sunk, Took, TookFront}
use Rattle.disk_folder.specs.SeenFolder.{SeenFolder}
use Rattle.plain_machine.specs.declared.plain.Plain.{Plain}
use Rattle.plain_machine.specs.Runs.{run}
use Rattle.option_words.specs.Options.{Text}
use Rattle.trace_log.specs.LogText.{log_text}
use Rattle.job_words.specs.declared.job.Job.{Job}
use Rattle.job_words.specs.declared.job.Job.TheVariants.{Launch, Restart}
use Rattle.job_words.specs.declared.job.LaunchJob.{LaunchJob}
use Rattle.job_words.specs.declared.job.RestartJob.{RestartJob}
use Rattle.job_words.specs.declared.job.RingJob.{RingJob}
use Rattle.job_words.specs.Jobs.{IsLaunchOf}
use Rattle.job_words.specs.Commands.{words_of_command}
use Rattle.endings.specs.declared.status.Status.{Status}
use Rattle.endings.specs.declared.status.Status.TheVariants.{Done as IsDone}
use Rattle.endings.specs.declared.ending.Ending.{Ending}
use Rattle.endings.specs.declared.ending.Ending.TheVariants.{Done, SinkFault, Memory}
use Rattle.endings.specs.Endings.{status_of, line_of}
use Rattle.endings.specs.Log.{done_line}
use Rattle.drive.specs.RunEnds.{RanOut}
use Rattle.launch_start.specs.RingJobs.{launch_of, launch_settings, members, restart_of, ring_files}
use Rattle.launch_start.specs.Values.{content_named}
use Rattle.dmtcp_top.specs.declared.ring.Values.{Values}
use Rattle.dmtcp_top.specs.Jobs.{Asks}
use Rattle.dmtcp_top.specs.Sessions.{Outside, outside}
use Rattle.dmtcp_top.specs.Ends.{CameTo}
use Rattle.dmtcp_top.specs.Endings.{ComesToEnd, IsStopped}
use Rattle.dmtcp_top.specs.Ring.{RingCall, RingHalves, RingReaches, AreLines, RingCutOff, call_of, value_left}

-- what is seen at a moment of what a half is lent: inputs that hold the ring's program, a console of which
-- nothing is seen, the log and the folder
abbrev pub half_outside : SeenSink → SeenFolder → Outside
half_outside log folder =
    outside (record { files = Some ring_files; faults = 0 }) (record { taken = None; faults = 0 }) log folder

-- nobody lives at the end of the half, and this is what its run left in the file of the value
pub record IsHalfDone (left : List ℕ) (words : List Text) (trace : List Record) (before now : Outside)
    : Type 0 where
  pub come : ComesToEnd Done words trace before now
  pub value : IfSome come.start
      (λ begun. (g : Plain) × (run begun.state trace ≡ Some g) × (left ≡ content_named g.kernel (codes "value")))

abbrev pub HalfEnds : Result (List ℕ) Ending → List Text → List Record → Outside → Outside → Type 0
HalfEnds (Ok left) words trace before now = IsHalfDone left words trace before now
HalfEnds (Err ending) words trace before now = IsStopped ending words trace before now

-- the jobs of the two halves
pub record AreHalves (ring : RingJob) (launch restart : Job) : Type 0 where
  pub launch_job : LaunchJob
  pub launch_is : launch ≡ Launch launch_job
  pub launches : Asks (words_of_command (launch_of ring)) (Launch launch_job)
  pub launch_as : IsLaunchOf (launch_settings ring) (members ring.processes) launch_job
  pub restart_job : RestartJob
  pub restart_is : restart ≡ Restart restart_job
  pub restarts : Asks (words_of_command (restart_of ring)) (Restart restart_job)
  pub quiet : restart_job.every ≡ None

-- the ring came to this status and this last line: what the console took, and what the log took before that
-- line
pub record IsTold (status : Status) (last : List ℕ) (call : RingCall) (console log : Sunk) : Type 0 where
  pub shown : List ℕ
  pub there : RingReaches status call shown last
  pub took : Took console shown
  pub text : List ℕ
  pub lines : AreLines status call text
  pub logged : Took log text

-- both halves came to their end, and the console failed at the line that tells it
pub record SummaryFailed (call : RingCall) (console log : Sunk) : Type 0 where
  pub shown : List ℕ
  pub there : RingReaches IsDone call shown done_line
  pub took : TookFront console shown
  pub logged : Took log (log_text call.launch.left.trace)

abbrev pub RingIsAt : Ending → RingCall → Sunk → Sunk → Type 0
RingIsAt SinkFault call console log = RingCutOff call console log ⊎ SummaryFailed call console log
RingIsAt ending call console log = IsTold (status_of ending) (line_of ending) call console log

pub record RingComesToEnd (ending : Ending) (ring : RingJob) (trace : List Record) (old new : SeenFolder)
    (console log : Sunk) : Type 0 where
  pub halves : RingHalves ring old new
  pub there : RingIsAt ending (call_of halves trace) console log

-- both halves came to their end, and left these values
pub record AreDone (values : Values) (ring : RingJob) (trace : List Record) (old new : SeenFolder) (log : Sunk)
    : Type 0 where
  pub halves : RingHalves ring old new
  pub kept : trace ≡ halves.restarted
  pub launch : CameTo RanOut (call_of halves trace).launch
  pub restart : CameTo RanOut (call_of halves trace).restart
  pub launched_is : values.launched ≡ value_left launch
  pub restarted_is : values.restarted ≡ value_left restart
  pub logged : Took log (log_text halves.launched)

abbrev pub HalvesEnd : Result Values Ending → RingJob → List Record → SeenFolder → SeenFolder → Sunk → Type 0
HalvesEnd (Ok values) ring trace old new log = AreDone values ring trace old new log
HalvesEnd (Err ending) ring trace old new log =
    (console : Sunk) → Took console [] → RingComesToEnd ending ring trace old new console log

-- the line of the values was put, or the console failed, or memory was wanted for the line
abbrev pub Telling : Ending → List ℕ → Sunk → Type 0
Telling Done line console = Took console line
Telling SinkFault line console = TookFront console line
Telling Memory line console = Took console []
Telling _ line console = ⊥

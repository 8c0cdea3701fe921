-- The worked ring, as it is called: a launch of its programs, and where that comes to an end with nobody
-- alive a restart from the last set. Each half is a call by itself, and nobody sees what its programs write.
--     launch_half, restart_half     the two calls
--     value_left came               what a run left in the file `value`
--     RingReaches status call ..    the ring came to this status, with this line on the console and on the log
--     RingEnds status call ..       the same with what console and log took
--     IsRing status ring trace before after     the contract of a call for the ring
use Rattle.std.specs.Prelude.{◌≡◌, ◌⊎◌, ℕ, List, [], ◌++◌, codes, Option, Some, None}
use Rattle.sys_abi.specs.declared.record.Record.{Record}
use Rattle.disk_folder.specs.Files.{FolderFiles as Folder}
use Rattle.disk_folder.specs.SeenFolder.{SeenFolder}
use Rattle.trace_log.specs.LogText.{log_text}
use Rattle.endings.specs.declared.status.Status.{Status}
use Rattle.endings.specs.declared.status.Status.TheVariants.{Done, Usage, InputFault, Missing, BadElf, SinkFault, DiskFault, Memory, TooBig}
use Rattle.endings.specs.Log.{done_line}
use Rattle.job_words.specs.declared.job.RingJob.{RingJob}
use Rattle.job_words.specs.Commands.{words_of_command}
use Rattle.edge_io.specs.Sunk.{Sunk, sunk, Took, TookFront}
use Rattle.drive.specs.HandedOn.{TookThen}
use Rattle.drive.specs.RunEnds.{RanOut, ShownInPart}
use Rattle.launch_start.specs.RingJobs.{launch_of, restart_of, ring_files}
use Rattle.launch_start.specs.Values.{content_named, summary}
use Rattle.dmtcp_top.specs.Sessions.{Session, Beginning, Outside, StreamsFailed, FolderFailed, given, session, log_in}
use Rattle.dmtcp_top.specs.Ends.{CameTo, Reaches, IsFrontOfLines, CallGoesInRounds}
use Rattle.dmtcp_top.specs.Promise.{StaysWhole}

-- nobody sees what the programs of the ring write
abbrev pub unseen : Sunk
unseen = sunk None None

-- launch --workers W --every K 0:ring,0,N 1:ring,1,N .., where the input `ring` is the ring's program
abbrev pub launch_half : RingJob → Option Folder → Option Beginning → List Record → Session
launch_half ring folder start trace =
    session (given (words_of_command (launch_of ring)) (Some ring_files) folder) start trace unseen

-- restart --workers W
abbrev pub restart_half : RingJob → Option Folder → Option Beginning → List Record → Session
restart_half ring folder start trace =
    session (given (words_of_command (restart_of ring)) (Some ring_files) folder) start trace unseen

-- a call for a ring of so many processes: its two halves, and the trace that is handed back
pub record RingCall : Type 0 where
  pub processes : ℕ
  pub launch : Session
  pub restart : Session
  pub trace : List Record

-- what a run that came to its end left in the file `value`, nothing where there is no such file
abbrev pub value_left : {half : Session} → CameTo RanOut half → List ℕ
value_left came = content_named came.run.shown.state.kernel (codes "value")

-- both halves came to their end: the summary belongs on the console
pub record BothEnd (call : RingCall) (shown last : List ℕ) : Type 0 where
  pub launched : CameTo RanOut call.launch
  pub restarted : CameTo RanOut call.restart
  pub trace : call.trace ≡ call.restart.left.trace
  pub value : shown ≡ summary call.processes (value_left launched) (value_left restarted)
  pub line : last ≡ done_line

-- the launch came to this status, or it came to its end and the restart to this status
abbrev pub HalfReaches : Status → RingCall → List ℕ → Type 0
HalfReaches status call last =
    (Reaches status call.launch last × (call.trace ≡ call.launch.left.trace))
    ⊎ (CameTo RanOut call.launch × Reaches status call.restart last × (call.trace ≡ call.restart.left.trace))

-- The ring came to this status: what belongs on the console, and the last line of the log. Its programs are
-- always there and good.
abbrev pub RingReaches : Status → RingCall → List ℕ → List ℕ → Type 0
RingReaches Done call shown last = BothEnd call shown last
RingReaches Usage call shown last = ⊥
RingReaches InputFault call shown last = ⊥
RingReaches Missing call shown last = ⊥
RingReaches BadElf call shown last = ⊥
RingReaches TooBig call shown last = ⊥
RingReaches SinkFault call shown last = ⊥
RingReaches status call shown last = HalfReaches status call last × (shown ≡ [])

-- the log's lines before the last one: those of the launch's checkpoints, which may be cut off where memory
-- was wanted
abbrev pub AreLines : Status → RingCall → List ℕ → Type 0
AreLines Memory call text = IsFrontOfLines call.launch.left.trace text
AreLines _ call text = text ≡ log_text call.launch.left.trace

-- All of it was put; or the console failed at its line, or the log at its last one, whatever the status was
-- to be.
abbrev pub Tells : Status → Status → List ℕ → List ℕ → List ℕ → Sunk → Sunk → Type 0
Tells status reached shown text last console log =
    ((status ≡ reached) × Took console shown × Took log (text ++ last))
    ⊎ ((status ≡ SinkFault) × TookFront console shown × Took log text)
    ⊎ ((status ≡ SinkFault) × Took console shown × TookThen log text last)

-- the halves came to their ends
pub record RingEnded (status : Status) (call : RingCall) (console log : Sunk) : Type 0 where
  pub reached : Status
  pub shown : List ℕ
  pub last : List ℕ
  pub there : RingReaches reached call shown last
  pub text : List ℕ
  pub lines : AreLines reached call text
  pub told : Tells status reached shown text last console log

-- the log failed in the run of a half
abbrev pub HalfIsCutOff : RingCall → Type 0
HalfIsCutOff call =
    (CameTo ShownInPart call.launch × (call.trace ≡ call.launch.left.trace))
    ⊎ (CameTo RanOut call.launch × CameTo ShownInPart call.restart × (call.trace ≡ call.restart.left.trace))

pub record RingCutOff (call : RingCall) (console log : Sunk) : Type 0 where
  pub cut : HalfIsCutOff call
  pub nothing : Took console []
  pub lines : TookFront log (log_text call.launch.left.trace)

abbrev pub RingEnds : Status → RingCall → Sunk → Sunk → Type 0
RingEnds SinkFault call console log = RingCutOff call console log ⊎ RingEnded SinkFault call console log
RingEnds status call console log = RingEnded status call console log

-- The two halves of a call, from the folder before it to the folder after it: how each run began, if it did,
-- and its trace. The restart goes on from the folder as it is left.
pub record RingHalves (ring : RingJob) (old new : SeenFolder) : Type 0 where
  pub first : Option Beginning
  pub launched : List Record
  pub second : Option Beginning
  pub restarted : List Record
  -- Both go in the order of the rounds.
  pub in_rounds : CallGoesInRounds (launch_half ring old.files first launched)
  pub again_in_rounds : CallGoesInRounds (restart_half ring new.files second restarted)
  -- A crash at any moment of the call leaves the set that counted before it, or one of a cut of the launch.
  pub whole : StaysWhole first launched old new

abbrev pub call_of : {ring : RingJob} {old new : SeenFolder}
    → RingHalves ring old new → List Record → RingCall
call_of {ring} {old} {new} halves trace = record {
  processes = ring.processes;
  launch = launch_half ring old.files halves.first halves.launched;
  restart = restart_half ring new.files halves.second halves.restarted;
  trace = trace;
}

-- the contract of a call for the ring with this status
pub record IsRing (status : Status) (ring : RingJob) (trace : List Record) (before after : Outside)
    : Type 0 where
  pub halves : RingHalves ring before.folder after.folder
  pub ends : RingEnds status (call_of halves trace)
      (sunk before.console.taken after.console.taken) (log_in before after)
  pub same : after.inputs ≡ before.inputs
  -- An answer that something outside failed comes only where it did.
  pub sink_failed : status ≡ SinkFault → StreamsFailed before after
  pub disk_failed : status ≡ DiskFault → FolderFailed before after

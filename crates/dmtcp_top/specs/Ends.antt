-- How a call ends: for each status what holds of the trace, the console and the log, in one line.
--     Reaches status session last     the call came to this status, with which this last line belongs on the
--                                     log
--     Ends status session log         the same with what the log took
--     CallKeepsPace ..                how far console and log came where a sink failed or memory was wanted
--     CallGoesInRounds session        the trace goes in the order of the rounds
--     WordsDecide status words        what the words decide, where no sink failed
--     InputsDecide status given       what the inputs decide, where no input and no sink failed
--     IsDecided status given          which status comes where nothing outside failed
use Rattle.std.specs.Prelude.{◌≡◌, ◌≢◌, ℕ, ◌⊎◌, ◌↔◌, List, [], ◌++◌, take, Some, None, IfSome}
use Rattle.views.specs.Numbers.{Byte}
use Rattle.sys_abi.specs.declared.record.Record.{Record}
use Rattle.elf32.specs.declared.fault.ElfFault.{ElfFault}
use Rattle.edge_io.specs.Inputs.{NamedFiles}
use Rattle.edge_io.specs.Sunk.{Sunk, Took, TookFront}
use Rattle.disk_folder.specs.Files.{FolderFiles as Folder}
use Rattle.plain_machine.specs.declared.plain.Plain.{Plain}
use Rattle.image_format.specs.declared.damage.Damage.{Damage}
use Rattle.image_store.specs.Slots.{last as set_that_counts}
use Rattle.trace_log.specs.declared.requests.Schedule.{Schedule}
use Rattle.trace_log.specs.LogText.{log_text}
use Rattle.endings.specs.declared.status.Status.{Status}
use Rattle.endings.specs.declared.status.Status.TheVariants.{Done, Usage, InputFault, Missing, BadElf, SinkFault, DiskFault, NoSet, Damaged, Budget, Stuck, Memory, TooBig}
use Rattle.option_words.specs.Options.{Text}
use Rattle.dmtcp_top.specs.Jobs.{AskNothing, AskSomething}
use Rattle.launch_start.specs.JobInputs.{Refusal, unread, missing, bad, too_big, JobInputs, IsMissing, IsBad, IsTooBig, IsFirstRefusal, AreLoaded, first_refusal, inputs_in}
use Rattle.endings.specs.Log.{done_line, usage_line, input_fault_line, missing_line, bad_program_line, too_big_line, disk_fault_line, no_set_line, damaged_line, budget_line, stuck_line, memory_line}
use Rattle.dmtcp_top.specs.Sessions.{Given, Beginning, Session}
use Rattle.drive.specs.HandedOn.{TookThen, SpellsSet, SpoilsSet, GoesInRounds, CutLines}
use Rattle.drive.specs.RunEnds.{RanOut, FilledUp, GotStuck, Shown, ShownInPart}
use Rattle.drive.specs.Pace.{StopsAtRecord}
use Rattle.dmtcp_top.specs.Launches.{LaunchAsked, RestartAsked, Begun, origin, settings_in, schedule_in, beginning}

-- a run was begun, and it came to this
pub record CameTo (There : Schedule → Plain → ℕ → List Record → Sunk → Type 0) (session : Session)
    : Type 0 where
  pub begun : Begun session.given
  pub start : session.left.start ≡ Some (beginning begun)
  pub run : There (schedule_in begun) (origin begun) (settings_in begun).records
      session.left.trace session.left.console

-- the trace is full, somebody lives, and the console took what the run writes
pub record Spent (session : Session) (last : List Byte) : Type 0 where
  pub begun : Begun session.given
  pub start : session.left.start ≡ Some (beginning begun)
  pub run : FilledUp (schedule_in begun) (origin begun) (settings_in begun).records
      session.left.trace session.left.console
  pub line : last ≡ budget_line (settings_in begun).records

-- no run was begun: the trace is empty, and the console took nothing
pub record NotBegun (session : Session) : Type 0 where
  pub start : session.left.start ≡ None
  pub trace : session.left.trace ≡ []
  pub console : Took session.left.console []

-- no run was begun, since the launch is refused, first of all for this
pub record Refused (session : Session) (refusal : Refusal) : Type 0 where
  pub nothing : NotBegun session
  pub asked : LaunchAsked session.given
  pub first : IsFirstRefusal session.given.files asked.job refusal

-- the words ask for a restart, or for a launch with checkpoints that is not refused
pub data NeedsStore (given : Given) : Type 0 where
  ToLaunch : (asked : LaunchAsked given) (inputs : JobInputs) → asked.job.every ≢ None
      → AreLoaded given.files asked.job inputs → NeedsStore given
  ToRestart : RestartAsked given → NeedsStore given

-- the folder of sets failed before the run
pub record Unopened (session : Session) (last : List Byte) : Type 0 where
  pub nothing : NotBegun session
  pub needs : NeedsStore session.given
  pub line : last ≡ disk_fault_line

-- a restart, and no set counts
pub record Setless (session : Session) (last : List Byte) : Type 0 where
  pub nothing : NotBegun session
  pub asked : RestartAsked session.given
  pub none : IfSome session.given.folder (λ files. set_that_counts files ≡ None)
  pub line : last ≡ no_set_line

-- a restart, and the set that counts spells no state
pub record Spoilt (session : Session) (last : List Byte) : Type 0 where
  pub nothing : NotBegun session
  pub asked : RestartAsked session.given
  pub slot : ℕ
  pub damage : Damage
  pub spoilt : IfSome session.given.folder (λ files. SpoilsSet files slot damage)
  pub line : last ≡ damaged_line slot damage

abbrev pub Reaches : Status → Session → List Byte → Type 0
Reaches Done session last = CameTo RanOut session × (last ≡ done_line)
Reaches Usage session last = NotBegun session × AskNothing session.given.words × (last ≡ usage_line)
Reaches InputFault session last =
    (name : Text) × (Refused session (unread name) × (last ≡ input_fault_line name))
Reaches Missing session last =
    (name : Text) × (Refused session (missing name) × (last ≡ missing_line name))
Reaches BadElf session last =
    (name : Text)
    × ((fault : ElfFault) × (Refused session (bad name fault) × (last ≡ bad_program_line name fault)))
Reaches TooBig session last = Refused session too_big × (last ≡ too_big_line)
Reaches SinkFault session last = ⊥
Reaches DiskFault session last = Unopened session last
Reaches NoSet session last = Setless session last
Reaches Damaged session last = Spoilt session last
Reaches Budget session last = Spent session last
Reaches Stuck session last = CameTo GotStuck session × (last ≡ stuck_line)
Reaches Memory session last =
    ((NotBegun session × AskSomething session.given.words) ⊎ CameTo Shown session) × (last ≡ memory_line)

-- the log took the lines of the checkpoints, and the last line
pub record Logged (status : Status) (session : Session) (log : Sunk) : Type 0 where
  pub last : List Byte
  pub reached : Reaches status session last
  pub took : Took log (log_text session.left.trace ++ last)

-- memory was wanted: the log took the lines of the checkpoints, which may be cut off so, and the last line
pub record LoggedPart (IsCut : List Byte → Type 0) (session : Session) (log : Sunk) : Type 0 where
  pub last : List Byte
  pub reached : Reaches Memory session last
  pub text : List Byte
  pub lines : text ≡ log_text session.left.trace ⊎ IsCut text
  pub took : Took log (text ++ last)

-- the log failed at the last line, whatever the status was to be
pub record LogFailed (IsCut : List Byte → Type 0) (session : Session) (log : Sunk) : Type 0 where
  pub status : Status
  pub last : List Byte
  pub reached : Reaches status session last
  pub text : List Byte
  pub lines : text ≡ log_text session.left.trace ⊎ (status ≡ Memory) × IsCut text
  pub took : TookThen log text last

-- the console or the log failed in the run: each took a first part of what belongs to it
abbrev pub SinkFailed : Session → Sunk → Type 0
SinkFailed session log = CameTo ShownInPart session × TookFront log (log_text session.left.trace)

-- a first part of the lines of a trace
abbrev pub IsFrontOfLines : List Record → List Byte → Type 0
IsFrontOfLines trace text = (n : ℕ) × (text ≡ take n (log_text trace))

abbrev pub Ends : Status → Session → Sunk → Type 0
Ends SinkFault session log =
    SinkFailed session log ⊎ LogFailed (IsFrontOfLines session.left.trace) session log
Ends Memory session log = LoggedPart (IsFrontOfLines session.left.trace) session log
Ends status session log = Logged status session log

-- a run was begun, and it stopped at its last record
pub record Stopped (session : Session) (log : Sunk) : Type 0 where
  pub begun : Beginning
  pub start : session.left.start ≡ Some begun
  pub there : StopsAtRecord begun.state session.left.trace session.left.console log

-- where a sink failed or memory was wanted, nothing is missing but a part of what belongs to the last record
-- or line
abbrev pub CallKeepsPace : Status → Session → Sunk → Type 0
CallKeepsPace SinkFault session log =
    Stopped session log ⊎ LogFailed (CutLines session.left.trace) session log
CallKeepsPace Memory session log = LoggedPart (CutLines session.left.trace) session log
CallKeepsPace _ session log = Unit {0}

-- where a run was begun its records come in the order of the rounds
abbrev pub CallGoesInRounds : Session → Type 0
CallGoesInRounds session =
    IfSome session.left.start (λ begun. GoesInRounds begun.schedule begun.state session.left.trace)

abbrev pub RunsOn : Status → Type 0
RunsOn status = (status ≡ Done) ⊎ (status ≡ Budget) ⊎ (status ≡ Stuck) ⊎ (status ≡ Memory)

-- where no sink failed the words decide whether it is Usage: exactly where they ask for nothing, also where
-- there is no memory
abbrev pub WordsDecide : Status → List Text → Type 0
WordsDecide status words = (status ≡ Usage) ↔ AskNothing words

-- where no input and no sink failed, what the inputs hold decides whether a launch is refused, and for what,
-- but for want of memory
pub record InputsDecide (status : Status) (given : Given) : Type 0 where
  pub missing : (held : NamedFiles) (asked : LaunchAsked given) → given.files ≡ Some held → status ≢ Memory
      → (status ≡ Missing) ↔ IsMissing (first_refusal (inputs_in held asked.job))
  pub bad : (held : NamedFiles) (asked : LaunchAsked given) → given.files ≡ Some held → status ≢ Memory
      → (status ≡ BadElf) ↔ IsBad (first_refusal (inputs_in held asked.job))
  pub too_big : (held : NamedFiles) (asked : LaunchAsked given) → given.files ≡ Some held → status ≢ Memory
      → (status ≡ TooBig) ↔ IsTooBig (first_refusal (inputs_in held asked.job))

-- where no input, no sink and not the folder failed, what the inputs hold and the files of the folder decide
-- which status comes, but for want of memory
pub record IsDecided (status : Status) (given : Given) : Type 0 where
  pub launches : (held : NamedFiles) (asked : LaunchAsked given) → given.files ≡ Some held
      → first_refusal (inputs_in held asked.job) ≡ None → RunsOn status
  pub setless : (files : Folder) → RestartAsked given → given.folder ≡ Some files → status ≢ Memory
      → (status ≡ NoSet) ↔ (set_that_counts files ≡ None)
  pub spoilt : (files : Folder) → RestartAsked given → given.folder ≡ Some files → status ≢ Memory
      → (status ≡ Damaged) ↔ ((slot : ℕ) × ((damage : Damage) × SpoilsSet files slot damage))
  pub restarts : (files : Folder) (generation : ℕ) (g : Plain) → RestartAsked given
      → given.folder ≡ Some files → SpellsSet files generation g → RunsOn status

-- The rounds leave no choice where no checkpoints are made: from one state they make one run.
--     work_in records      the records of work among these, in their order
--     steps_in records     all of them but the marks
--     OneOrder             of two traces from one state the steps of the shorter begin those of the longer
--     OneTrace             and the shorter run's trace begins the longer one's
--     StandsStill          where nothing is due in a new round, though somebody lives, nobody can go on
--     EndsThere            once nobody lives or can go on no more work is done, and nothing at all where
--                          nobody lives or all bytes have arrived
--     OneEnd               so two runs to such an end are one
--     OneEnding            and two runs with as much room end alike, with one trace
--     EndsSo               so a run does what the rounds from its state do to an end at which nobody lives,
--                          where they come to one and there is room for that, or wants memory
--     OneRestart           so restarts from one set answer one and leave one trace
--     RestartEndsSo        and a restart does what the rounds from its set's state do to an end at which
--                          nobody lives
--     SetIsValid           whose state is valid, as that of a launch is
--     OneAnswer            and two calls that begin with one state, launch or restart, show the same where
--                          both end as done
--     LacksNoRequest       a run to its end has the mark of a request that was due
use Rattle.std.specs.Prelude.{◌≡◌, ◌≢◌, ◌⊎◌, ℕ, ◌-◌, ◌^◌, ◌<◌, ◌≤◌, true, false, not, List, [], ◌∷◌, ◌++◌, filter, length, take, Some, None, All}
use Rattle.std.specs.List.{count_by}
use Rattle.std.specs.Option.{option_map}
use Rattle.sys_abi.specs.declared.record.Record.{Record}
use Rattle.plain_machine.specs.declared.plain.Plain.{Plain}
use Rattle.plain_machine.specs.Runs.{run, console}
use Rattle.plain_machine.specs.Tests.{is_work, ended, full_arrive, IsStuck}
use Rattle.plain_process.specs.Valid.{IsByte}
use Rattle.plain_machine.specs.Valid.{IsValid}
use Rattle.trace_log.specs.declared.requests.Schedule.{Schedule}
use Rattle.trace_log.specs.Requests.{is_mark}
use Rattle.trace_log.specs.Turns.{new_round}
use Rattle.disk_folder.specs.Files.{FolderFiles as Folder}
use Rattle.endings.specs.declared.status.Status.{Status}
use Rattle.endings.specs.declared.status.Status.TheVariants.{Done, Budget, Stuck, Memory as WantsMemory}
use Rattle.dmtcp_top.specs.Jobs.{NameNoEvery}
use Rattle.dmtcp_top.specs.Launches.{RestartAsked}
use Rattle.drive.specs.HandedOn.{SpellsState, SpellsSet, GoesInRounds}
use Rattle.drive.specs.declared.loop_end.LoopEnd.{LoopEnd}
use Rattle.drive.specs.RunEnds.{IsRun, RanOut, EndsRun}
use Rattle.drive.specs.declared.loop_end.LoopEnd.TheVariants.{Done as Ended, SinkFault, Memory}
use Rattle.edge_io.specs.Sunk.{Sunk, Took}
use Rattle.dmtcp_top.specs.Sessions.{Beginning, Session}
use Rattle.dmtcp_top.specs.Ends.{Ends, IsDecided, CallGoesInRounds}

abbrev pub work_in : List Record → List Record
work_in records = filter is_work records

abbrev pub steps_in : List Record → List Record
steps_in records = filter (λ r. not (is_mark r)) records

abbrev pub OneOrder : Type 0
OneOrder =
    (schedule other : Schedule) (g : Plain) (a b : List Record)
    → schedule.every ≡ None → other.every ≡ None → GoesInRounds schedule g a → GoesInRounds other g b
    → length (steps_in a) ≤ length (steps_in b) → steps_in a ≡ take (length (steps_in a)) (steps_in b)

abbrev pub OneTrace : Type 0
OneTrace =
    (schedule other : Schedule) (g last final : Plain) (room more : ℕ) (a b : List Record)
    → schedule.every ≡ None → other.every ≡ None → IsRun schedule g room a last → IsRun other g more b final
    → GoesInRounds schedule g a → GoesInRounds other g b → length a ≤ length b → a ≡ take (length a) b

-- nobody lives, or nobody can go on
abbrev pub ComesToRest : Plain → Type 0
ComesToRest g = (ended g ≡ true) ⊎ IsStuck g

abbrev pub StandsStill : Type 0
StandsStill =
    (g : Plain) → IsValid g → ended g ≡ false → new_round g ≡ None → IsStuck g × (full_arrive g ≡ g)

abbrev pub EndsThere : Type 0
EndsThere =
    (schedule : Schedule) (g last : Plain) (records : List Record) (r : Record)
    → IsValid g → run g records ≡ Some last → ComesToRest last → GoesInRounds schedule g (records ++ r ∷ [])
    → (is_work r ≡ false) × ((ended last ≡ true) ⊎ (full_arrive last ≡ last) → is_mark r ≡ true)

-- the same work, the same bytes on the console, and the same state at the end, where nobody lives, or once
-- all bytes have arrived
pub record AreOne (g : Plain) (a b : List Record) (last final : Plain) : Type 0 where
  pub work : work_in a ≡ work_in b
  pub shown : console g a ≡ console g b
  pub same : ended last ≡ true → last ≡ final
  pub state : full_arrive last ≡ full_arrive final

abbrev pub OneEnd : Type 0
OneEnd =
    (schedule other : Schedule) (g last final : Plain) (a b : List Record)
    → schedule.every ≡ None → other.every ≡ None → IsValid g → GoesInRounds schedule g a
    → GoesInRounds other g b
    → run g a ≡ Some last → run g b ≡ Some final → ComesToRest last → ComesToRest final
    → AreOne g a b last final

-- what a run comes to where nothing outside fails and there is memory
abbrev pub IsAnswer : LoopEnd → Type 0
IsAnswer SinkFault = ⊥
IsAnswer Memory = ⊥
IsAnswer _ = Unit {0}

abbrev pub OneEnding : Type 0
OneEnding =
    (schedule other : Schedule) (g : Plain) (room : ℕ) (a b : List Record)
    (first second : LoopEnd) (console log also more : Sunk)
    → IsValid g → schedule.every ≡ None → other.every ≡ None → IsAnswer first → IsAnswer second
    → EndsRun first schedule g room a console log → EndsRun second other g room b also more
    → GoesInRounds schedule g a → GoesInRounds other g b → (first ≡ second) × (a ≡ b)

abbrev pub no_checkpoints : Schedule
no_checkpoints = record { every = None; opening = 0 }

-- the rounds from this state, without checkpoints, come with these records to an end where nobody lives, and
-- there is room for them
pub record RunsToEnd (g : Plain) (room : ℕ) (records : List Record) : Type 0 where
  pub last : Plain
  pub steps : run g records ≡ Some last
  pub over : ended last ≡ true
  pub unmarked : All (λ r. is_mark r ≡ false) records
  pub order : GoesInRounds no_checkpoints g records
  pub fits : length records ≤ room

-- of a run that no sink cut off
abbrev pub EndsSo : Type 0
EndsSo =
    (schedule : Schedule) (g : Plain) (room : ℕ) (records trace : List Record) (end : LoopEnd)
    (console log : Sunk)
    → IsValid g → schedule.every ≡ None → RunsToEnd g room records
    → EndsRun end schedule g room trace console log → GoesInRounds schedule g trace → end ≢ SinkFault
    → (end ≡ Memory) ⊎ ((end ≡ Ended) × (trace ≡ records))

-- the statuses with which a run answers
abbrev pub Answers : Status → Type 0
Answers Done = Unit {0}
Answers Budget = Unit {0}
Answers Stuck = Unit {0}
Answers _ = ⊥

abbrev pub OneRestart : Type 0
OneRestart =
    (files : Folder) (generation : ℕ) (g : Plain)
    (a b : Session) (asked : RestartAsked a.given) (too : RestartAsked b.given) (first second : Status)
    (log other : Sunk)
    → SpellsSet files generation g → asked.job.every ≡ None → too.job.every ≡ None
    → asked.job.records ≡ too.job.records
    → a.given.folder ≡ Some files → b.given.folder ≡ Some files → Answers first → Answers second
    → Ends first a log → Ends second b other → CallGoesInRounds a → CallGoesInRounds b
    → (first ≡ second) × (a.left.trace ≡ b.left.trace)

-- of a call whose status is decided, as it is where nothing outside failed
abbrev pub RestartEndsSo : Type 0
RestartEndsSo =
    (files : Folder) (generation : ℕ) (g : Plain) (records : List Record)
    (session : Session) (asked : RestartAsked session.given) (status : Status) (log : Sunk)
    → SpellsSet files generation g → session.given.folder ≡ Some files
    → asked.job.every ≡ None → RunsToEnd g asked.job.records records
    → Ends status session log → CallGoesInRounds session → IsDecided status session.given
    → (status ≡ WantsMemory) ⊎ ((status ≡ Done) × (session.left.trace ≡ records))

-- what a set's files spell is valid
abbrev pub SetIsValid : Type 0
SetIsValid =
    (images : List (List ℕ)) (g : Plain)
    → All (λ file. All IsByte file) images → SpellsState images g → IsValid g

-- the same work, and the same bytes on the console
pub record ShowOne (a b : Session) : Type 0 where
  pub work : work_in a.left.trace ≡ work_in b.left.trace
  pub bytes : List ℕ
  pub first : Took a.left.console bytes
  pub second : Took b.left.console bytes

-- the call began a run, and with this state
abbrev pub BeganWith : Session → Plain → Type 0
BeganWith session g = option_map (λ (begun : Beginning). begun.state) session.left.start ≡ Some g

abbrev pub OneAnswer : Type 0
OneAnswer =
    (g : Plain) (a b : Session) (log other : Sunk)
    → NameNoEvery a.given.words → NameNoEvery b.given.words → BeganWith a g → BeganWith b g
    → Ends Done a log → Ends Done b other → CallGoesInRounds a → CallGoesInRounds b → ShowOne a b

-- no run that came to its end, with a checkpoint asked for after every so many records of work, made as many,
-- with room for more and a generation left, and has no mark
abbrev pub LacksNoRequest : Type 0
LacksNoRequest =
    (schedule : Schedule) (g : Plain) (room every : ℕ) (trace : List Record) (console : Sunk)
    → RanOut schedule g room trace console → schedule.every ≡ Some every → 0 < every
    → schedule.opening < 2 ^ 64 - 2 → every ≤ count_by is_work trace → length trace < room
    → All (λ r. is_mark r ≡ false) trace → ⊥

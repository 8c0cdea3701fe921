-- What beginning a run gives: the system and the guests with which it begins and its checkpoints, or how the
-- call ends without them.
--     plain_of start      the plain state with which a run begins
--     IsReady start       that state can be run
--     HasStore ..         a run's sets have a store exactly where it asks for checkpoints
use Rattle.std.specs.Prelude.{◌≡◌, ◌≢◌, ℕ, suc, List, All, Option, Some, None, is_some, Result, Ok, Err, IfSome}
use Rattle.plain_machine.specs.declared.plain.Plain.{Plain}
use Rattle.plain_machine.specs.Valid.{IsValid}
use Rattle.disk_folder.specs.Moments.{LeavesOnly}
use Rattle.image_store.specs.declared.set_info.SetInfo.{SetInfo}
use Rattle.image_store.specs.StoreStates.{Known, FitsFolder, next_generation}
use Rattle.image_store.specs.StoreCrashes.{ChangesNothing}
use Rattle.drive.specs.HandedOn.{Counts, SpellsState, SpellsSet, SpoilsSet}
use Rattle.edge_io.specs.Inputs.{NamedFiles}
use Rattle.disk_folder.specs.Files.{FolderFiles as Folder}
use Rattle.disk_folder.specs.SeenFolder.{SeenFolder}
use Rattle.image_codec.specs.Sets.{DamagedFiles}
use Rattle.image_store.specs.Slots.{last}
use Rattle.endings.specs.declared.ending.Ending.{Ending}
use Rattle.endings.specs.declared.ending.Ending.TheVariants.{Usage, InputFault, Missing, BadElf, TooBig, DiskFault, NoSet, Damaged, Memory}
use Rattle.option_words.specs.Options.{Text}
use Rattle.job_words.specs.declared.job.Job.{Job}
use Rattle.job_words.specs.declared.job.Job.TheVariants.{Launch, Restart, Help}
use Rattle.job_words.specs.declared.job.LaunchJob.{LaunchJob}
use Rattle.launch_start.specs.HandedOn.{Start as Origin, state_of, CanBegin}
use Rattle.dmtcp_top.specs.declared.settings.Settings.{Settings}
use Rattle.dmtcp_top.specs.declared.start.Checkpoints.{Checkpoints}
use Rattle.dmtcp_top.specs.declared.start.Start.{Start}
use Rattle.dmtcp_top.specs.Jobs.{AskNothing, AskSomething, Asks, settings_of}
use Rattle.launch_start.specs.JobInputs.{JobInputs, AreLoaded, IsFirstRefusal, unread, missing, bad, too_big, loaded_job}
use Rattle.dmtcp_top.specs.Launches.{Opens, schedule_of}
use Rattle.drive.specs.Driving as drive

abbrev pub plain_of : Start → Plain
plain_of start = drive.state_of start.system start.guests

-- that state is a valid one, and each guest stands under its own number
pub record IsReady (start : Start) : Type 0 where
  pub valid : IsValid (plain_of start)
  pub numbered : All (λ entry. entry.1.pid ≡ entry.0) start.guests

-- the store of a run's sets, which is let go where no checkpoints are asked for
abbrev pub store_for : Option ℕ → Known → Option Known
store_for None store = None
store_for (Some every) store = Some store

-- the store is there exactly where checkpoints are asked for, it fits the folder, and its next set follows the
-- opening one
pub record HasStore (checkpoints : Checkpoints) (folder : SeenFolder) : Type 0 where
  pub stored : is_some checkpoints.store ≡ is_some checkpoints.schedule.every
  pub follows : IfSome checkpoints.store (λ known. next_generation known ≡ suc checkpoints.schedule.opening)
  pub fits : IfSome checkpoints.store (λ known. FitsFolder known folder)

-- the checkpoints of a launch: its sets follow the one that counts, for which nobody asks where there are no
-- checkpoints
pub record IsMade (folder : Option Folder) (settings : Settings) (checkpoints : Checkpoints) : Type 0 where
  pub opening : ℕ
  pub opened : Opens folder settings.every opening
  pub schedule : checkpoints.schedule ≡ schedule_of settings opening

-- why there is none
abbrev pub IsUnmade : Settings → Ending → Type 0
IsUnmade settings DiskFault = settings.every ≢ None
IsUnmade settings Memory = Unit {0}
IsUnmade settings _ = ⊥

-- the run begins at this state with these checkpoints
pub record BeginsAt (at : Plain) (asked : Checkpoints) (start : Start) : Type 0 where
  pub state : plain_of start ≡ at
  pub ready : IsReady start
  pub checkpoints : start.checkpoints ≡ asked

-- the run begins at the start of the job
pub record IsLaunched (files : Option NamedFiles) (folder : Option Folder) (job : LaunchJob) (start : Start)
    : Type 0 where
  pub inputs : JobInputs
  pub loaded : AreLoaded files job inputs
  pub state : plain_of start ≡ loaded_job inputs
  pub ready : IsReady start
  pub opening : ℕ
  pub opened : Opens folder job.every opening
  pub schedule : start.checkpoints.schedule ≡ schedule_of (settings_of (Launch job)) opening

-- the run begins at the state that the set which counts spells
pub record IsRestarted (folder : Option Folder) (settings : Settings) (start : Start) : Type 0 where
  pub generation : ℕ
  pub images : List (List ℕ)
  pub spelled : SpellsState images (plain_of start)
  pub counted : IfSome folder (λ files. SpellsSet files generation (plain_of start))
  pub ready : IsReady start
  pub schedule : start.checkpoints.schedule ≡ schedule_of settings generation

-- how the words end a call without a job. For help no memory is wanted
abbrev pub RefusesWords : Ending → List Text → Type 0
RefusesWords Usage words = AskNothing words
RefusesWords Memory words = AskSomething words × (Asks words Help → ⊥)
RefusesWords _ words = ⊥

-- how a launch ends without a run, and why
abbrev pub RefusesLaunch : Ending → Option NamedFiles → LaunchJob → Type 0
RefusesLaunch (InputFault who) files job = IsFirstRefusal files job (unread who.now)
RefusesLaunch (Missing who) files job = IsFirstRefusal files job (missing who.now)
RefusesLaunch (BadElf who fault) files job = IsFirstRefusal files job (bad who.now fault)
RefusesLaunch TooBig files job = IsFirstRefusal files job too_big
RefusesLaunch DiskFault files job = (job.every ≢ None) × ((inputs : JobInputs) × AreLoaded files job inputs)
RefusesLaunch Memory files job = Unit {0}
RefusesLaunch _ files job = ⊥

-- how a restart ends without one
abbrev pub RefusesRestart : Ending → Option Folder → Type 0
RefusesRestart DiskFault folder = Unit {0}
RefusesRestart NoSet folder = IfSome folder (λ files. last files ≡ None)
RefusesRestart (Damaged slot damage) folder = IfSome folder (λ files. SpoilsSet files slot damage)
RefusesRestart Memory folder = Unit {0}
RefusesRestart _ folder = ⊥

abbrev pub Launches : Result Start Ending → Option NamedFiles → Option Folder → LaunchJob → Type 0
Launches (Ok start) files folder job = IsLaunched files folder job start
Launches (Err ending) files folder job = RefusesLaunch ending files job

abbrev pub Restarts : Result Start Ending → Option Folder → Settings → Type 0
Restarts (Ok start) folder settings = IsRestarted folder settings start
Restarts (Err ending) folder settings = RefusesRestart ending folder

-- what beginning a run gives
abbrev pub Begins : Result Start Ending → Job → Option NamedFiles → Option Folder → Type 0
Begins result (Launch job) files folder = Launches result files folder job
Begins result (Restart job) files folder = Restarts result folder (settings_of (Restart job))
Begins result _ files folder = ⊥

-- a store that was opened without a floor, or why there is none
abbrev pub Reopened : Result Known Ending → Option Folder → Type 0
Reopened (Ok store) folder = (store.floor ≡ 0) × IfSome folder (λ files. last files ≡ store.last)
Reopened (Err DiskFault) folder = Unit {0}
Reopened (Err Memory) folder = Unit {0}
Reopened (Err _) folder = ⊥

-- the state that the files of a set in this slot spell, or why there is none
abbrev pub IsOriginIn : Result Origin Ending → ℕ → List (List ℕ) → Type 0
IsOriginIn (Ok origin) slot images = SpellsState images (state_of origin) × CanBegin origin
IsOriginIn (Err (Damaged at damage)) slot images = (at ≡ slot) × DamagedFiles images damage.file damage.offset
IsOriginIn (Err Memory) slot images = Unit {0}
IsOriginIn (Err _) slot images = ⊥

-- the state of the set that counts, or why there is none
pub record IsRestored (info : SetInfo) (folder : Option Folder) (origin : Origin) : Type 0 where
  pub images : List (List ℕ)
  pub spelled : SpellsState images (state_of origin)
  pub counted : IfSome folder (λ files. SpellsSet files info.generation (state_of origin))
  pub can : CanBegin origin

abbrev pub Restored : Result Origin Ending → SetInfo → Option Folder → Type 0
Restored (Ok origin) info folder = IsRestored info folder origin
Restored (Err DiskFault) info folder = Unit {0}
Restored (Err (Damaged slot damage)) info folder = IfSome folder (λ files. SpoilsSet files slot damage)
Restored (Err Memory) info folder = Unit {0}
Restored (Err _) info folder = ⊥

-- a stretch of calls of the folder that only look or sync
pub record OnlyLooks (old new : SeenFolder) : Type 0 where
  pub nothing : ChangesNothing old new
  pub crash : LeavesOnly old new old.may_leave
  pub counts : Counts old.faults new.faults

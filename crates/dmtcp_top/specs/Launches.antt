-- How a run begins: by a launch of a job, or by a restart from the set that counts.
--     origin begun          the plain state with which it begins, which is a valid one
--     schedule_in begun     when it asks for checkpoints
--     beginning begun       both
use Rattle.std.specs.Prelude.{◌≡◌, ℕ, List, Option, Some, None, IfSome}
use Rattle.views.specs.Numbers.{Byte}
use Rattle.plain_machine.specs.declared.plain.Plain.{Plain}
use Rattle.plain_machine.specs.Valid.{IsValid}
use Rattle.disk_folder.specs.Files.{FolderFiles as Folder}
use Rattle.trace_log.specs.declared.requests.Schedule.{Schedule}
use Rattle.job_words.specs.declared.job.Job.TheVariants.{Launch, Restart}
use Rattle.job_words.specs.declared.job.LaunchJob.{LaunchJob}
use Rattle.job_words.specs.declared.job.RestartJob.{RestartJob}
use Rattle.dmtcp_top.specs.declared.settings.Settings.{Settings}
use Rattle.dmtcp_top.specs.Jobs.{Asks, settings_of}
use Rattle.launch_start.specs.JobInputs.{JobInputs, AreLoaded, loaded_job}
use Rattle.dmtcp_top.specs.Sessions.{Given, Beginning}
use Rattle.drive.specs.HandedOn.{SpellsState, SpellsSet, opening_of}

-- the words ask for a launch
pub record LaunchAsked (given : Given) : Type 0 where
  pub job : LaunchJob
  pub asks : Asks given.words (Launch job)

-- the words ask for a restart
pub record RestartAsked (given : Given) : Type 0 where
  pub job : RestartJob
  pub asks : Asks given.words (Restart job)

-- the generation of the set that counted at the start, which nobody asks for where there are no checkpoints
abbrev pub Opens : Option Folder → Option ℕ → ℕ → Type 0
Opens folder None opening = opening ≡ 0
Opens folder (Some every) opening = IfSome folder (λ files. opening ≡ opening_of files)

-- the launch was refused for nothing that it read, and the job was started
pub record LaunchedRun (given : Given) : Type 0 where
  pub asked : LaunchAsked given
  pub inputs : JobInputs
  pub loaded : AreLoaded given.files asked.job inputs
  pub valid : IsValid (loaded_job inputs)
  pub opening : ℕ
  pub opened : Opens given.folder asked.job.every opening

-- the set that counts spells a state, and the run goes on from there
pub record RestartedRun (given : Given) : Type 0 where
  pub asked : RestartAsked given
  pub generation : ℕ
  pub state : Plain
  pub valid : IsValid state
  pub images : List (List Byte)
  pub spelled : SpellsState images state
  pub counted : IfSome given.folder (λ files. SpellsSet files generation state)

pub data Begun (given : Given) : Type 0 where
  ByLaunch : LaunchedRun given → Begun given
  ByRestart : RestartedRun given → Begun given

abbrev pub origin : {given : Given} → Begun given → Plain
origin (ByLaunch launched) = loaded_job launched.inputs
origin (ByRestart restarted) = restarted.state

abbrev pub settings_in : {given : Given} → Begun given → Settings
settings_in (ByLaunch launched) = settings_of (Launch launched.asked.job)
settings_in (ByRestart restarted) = settings_of (Restart restarted.asked.job)

abbrev pub opening_in : {given : Given} → Begun given → ℕ
opening_in (ByLaunch launched) = launched.opening
opening_in (ByRestart restarted) = restarted.generation

abbrev pub schedule_of : Settings → ℕ → Schedule
schedule_of settings opening = record { every = settings.every; opening = opening }

abbrev pub schedule_in : {given : Given} → Begun given → Schedule
schedule_in begun = schedule_of (settings_in begun) (opening_in begun)

abbrev pub beginning : {given : Given} → Begun given → Beginning
beginning begun = record { state = origin begun; schedule = schedule_in begun }

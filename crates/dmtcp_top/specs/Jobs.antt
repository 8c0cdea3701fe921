-- What the words of a command line ask for, of what is built so far.
--     IsBuilt job            the one place that says what is built
--     IsOneRun job           it is one run, a launch or a restart, and neither the ring nor help
--     Asks words job         the words ask for this job, and it is built
--     AskNothing words       they ask for none
--     AskSomething words     they ask for one
--     AskForOneRun words     they ask for nothing but one run, if for anything
--     settings_of job        after how many records of work each a job asks for a checkpoint, if ever, and how
--                            many records its trace has room for
use Rattle.std.specs.Prelude.{◌≡◌, List, Some, None}
use Rattle.option_words.specs.Options.{Text}
use Rattle.job_words.specs.declared.job.Job.{Job}
use Rattle.job_words.specs.declared.job.Job.TheVariants.{Launch, Restart, Ring, Help}
use Rattle.job_words.specs.Jobs.{IsJob}
use Rattle.dmtcp_top.specs.declared.settings.Settings.{Settings}

-- without workers, wherever the hosts are
abbrev pub IsBuilt : Job → Type 0
IsBuilt (Launch job) = job.workers ≡ 0
IsBuilt (Restart job) = job.workers ≡ 0
IsBuilt (Ring job) = job.workers ≡ 0
IsBuilt Help = Unit {0}

pub record Asks (words : List Text) (job : Job) : Type 0 where
  pub is : IsJob words job
  pub built : IsBuilt job

abbrev pub AskNothing : List Text → Type 0
AskNothing words = (job : Job) → Asks words job → ⊥

abbrev pub AskSomething : List Text → Type 0
AskSomething words = AskNothing words → ⊥

abbrev pub IsOneRun : Job → Type 0
IsOneRun (Launch job) = Unit {0}
IsOneRun (Restart job) = Unit {0}
IsOneRun (Ring job) = ⊥
IsOneRun Help = ⊥

abbrev pub AskForOneRun : List Text → Type 0
AskForOneRun words = (job : Job) → Asks words job → IsOneRun job

abbrev pub settings_of : Job → Settings
settings_of (Launch job) = record { every = job.every; records = job.records }
settings_of (Restart job) = record { every = job.every; records = job.records }
settings_of (Ring job) = record { every = Some job.every; records = 1000000 }
settings_of Help = record { every = None; records = 0 }

-- a job that makes no checkpoint, and goes on from none
abbrev pub IsQuiet : Job → Type 0
IsQuiet (Launch job) = job.every ≡ None
IsQuiet (Restart job) = ⊥
IsQuiet (Ring job) = ⊥
IsQuiet Help = Unit {0}

abbrev pub MakesNoCheckpoints : List Text → Type 0
MakesNoCheckpoints words = (job : Job) → Asks words job → IsQuiet job

-- none of their options asks for checkpoints
abbrev pub NameNoEvery : List Text → Type 0
NameNoEvery words = (job : Job) → Asks words job → (settings_of job).every ≡ None

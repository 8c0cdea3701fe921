-- What a command line asks for: each option under its name, with its default where it is not given.
--     start_of program                        the program as it is started
--     IsLaunchOf, IsRestartOf, IsRingOf       the job of these settings, programs, processes
--     IsJobOf command asked                   the job of a command
--     IsJob words asked                       the words ask for this job
--
--     option        default
--     --nodes       launch: one more than the greatest host; restart: 16
--     --workers     0
--     --every       launch, restart: no checkpoints; ring: 1,000
--     --records     1,000,000
--     --shift       0
--     --pid-base    2,000
--     --port-base   30,000
use Rattle.std.specs.Prelude.{◌≡◌, ℕ, List, map}
use Rattle.option_words.specs.declared.option_key.OptionKey.TheVariants.{Nodes, Workers, Every, Records, Shift, PidBase, PortBase}
use Rattle.job_words.specs.declared.job.Job.{Job}
use Rattle.job_words.specs.declared.job.Job.TheVariants as job
use Rattle.job_words.specs.declared.job.LaunchJob.{LaunchJob}
use Rattle.job_words.specs.declared.job.RestartJob.{RestartJob}
use Rattle.job_words.specs.declared.job.RingJob.{RingJob}
use Rattle.job_words.specs.declared.job.NamedProgram.{NamedProgram}
use Rattle.option_words.specs.Options.{Text, Setting, files_of, given_for, given_or}
use Rattle.job_words.specs.Programs.{ProgramText, argument_bytes}
use Rattle.job_words.specs.Commands.{Command, Spell, nodes_of, launch, restart, ring, help}

-- a program as it is started
abbrev pub start_of : ProgramText → NamedProgram
start_of program = record { host = program.host; name = program.name; arguments = argument_bytes program }

pub record IsLaunchOf (given : List Setting) (texts : List ProgramText) (job : LaunchJob) : Type 0 where
  pub nodes : job.nodes ≡ nodes_of given texts
  pub workers : job.workers ≡ given_or Workers given 0
  pub every : job.every ≡ given_for Every given
  pub records : job.records ≡ given_or Records given 1000000
  pub file : job.file ≡ files_of given
  pub programs : job.programs ≡ map start_of texts

pub record IsRestartOf (given : List Setting) (job : RestartJob) : Type 0 where
  pub nodes : job.nodes ≡ given_or Nodes given 16
  pub workers : job.workers ≡ given_or Workers given 0
  pub every : job.every ≡ given_for Every given
  pub records : job.records ≡ given_or Records given 1000000
  pub shift : job.shift ≡ given_or Shift given 0
  pub pid_base : job.pid_base ≡ given_or PidBase given 2000
  pub port_base : job.port_base ≡ given_or PortBase given 30000

pub record IsRingOf (n : ℕ) (given : List Setting) (job : RingJob) : Type 0 where
  pub processes : job.processes ≡ n
  pub workers : job.workers ≡ given_or Workers given 0
  pub every : job.every ≡ given_or Every given 1000

abbrev pub IsJobOf : Command → Job → Type 0
IsJobOf (launch given programs) (job.Launch asked) = IsLaunchOf given programs asked
IsJobOf (restart given) (job.Restart asked) = IsRestartOf given asked
IsJobOf (ring n given) (job.Ring asked) = IsRingOf n given asked
IsJobOf help job.Help = Unit {0}
IsJobOf _ _ = ⊥

-- the words ask for this job
pub record IsJob (words : List Text) (asked : Job) : Type 0 where
  pub command : Command
  pub spell : Spell words command
  pub job : IsJobOf command asked

-- words ask for one job at most
abbrev pub OneJob : Type 0
OneJob = (words : List Text) (a b : Job) → IsJob words a → IsJob words b → a ≡ b

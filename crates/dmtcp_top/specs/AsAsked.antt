-- What a call of the program does, whatever its words ask for.
--     DoesAsAsked status words trace before after     the contract of a call
use Rattle.std.specs.Prelude.{List}
use Rattle.sys_abi.specs.declared.record.Record.{Record}
use Rattle.option_words.specs.Options.{Text}
use Rattle.job_words.specs.declared.job.Job.TheVariants.{Ring, Help}
use Rattle.job_words.specs.declared.job.RingJob.{RingJob}
use Rattle.endings.specs.declared.status.Status.{Status}
use Rattle.dmtcp_top.specs.Sessions.{Outside}
use Rattle.dmtcp_top.specs.Jobs.{Asks, AskForOneRun}
use Rattle.dmtcp_top.specs.Promise.{IsPromised}
use Rattle.dmtcp_top.specs.Ring.{IsRing}
use Rattle.dmtcp_top.specs.Help.{IsHelp}

-- words that ask for nothing are promised what one run is
pub record DoesAsAsked (status : Status) (words : List Text) (trace : List Record) (before after : Outside)
    : Type 0 where
  pub run : AskForOneRun words → IsPromised status words trace before after
  pub ring : (job : RingJob) → Asks words (Ring job) → IsRing status job trace before after
  pub help : Asks words Help → IsHelp status trace before after

-- A call whose words came to no job, where they ask for the ring or for help: memory was wanted, and never for help.
--     refused_ring     the contract of a ring holds then
--     refused_help     this never comes where they ask for help
use Rattle.std.proofs.Common.{◌≡◌, List, [], arith}
use Rattle.std.specs.Prelude.{◌⊎◌}
use Rattle.views.specs.Faults.{Rose}
use Rattle.sys_abi.specs.declared.record.Record.{Record}
use Rattle.edge_io.specs.Inputs.{SeenInputs}
use Rattle.edge_io.specs.Sink.{SeenSink}
use Rattle.edge_io.specs.Sunk.{sunk}
use Rattle.disk_folder.specs.SeenFolder.{SeenFolder}
use Rattle.option_words.specs.Options.{Text}
use Rattle.job_words.specs.declared.job.Job.TheVariants.{Ring, Help}
use Rattle.job_words.specs.declared.job.RingJob.{RingJob}
use Rattle.endings.specs.declared.status.Status.{Status}
use Rattle.endings.specs.declared.status.Status.TheVariants.{SinkFault as IsSinkFault}
use Rattle.endings.specs.declared.ending.Ending.{Ending}
use Rattle.endings.specs.declared.ending.Ending.TheVariants.{Done, Usage, InputFault, Missing, BadElf, TooBig, SinkFault, DiskFault, NoSet, Damaged, Budget, Stuck, Memory}
use Rattle.endings.specs.Endings.{status_of, Concludes}
use Rattle.dmtcp_top.specs.Jobs.{Asks}
use Rattle.dmtcp_top.specs.Loads.{RefusesWords}
use Rattle.dmtcp_top.specs.Ring.{IsRing}
use Rattle.dmtcp_top.specs.Sessions.{outside}
use Rattle.dmtcp_top.proofs.RingAsks.{refused_memory}
use Rattle.dmtcp_top.proofs.RingEnds.{is_ring}

module _ (status : Status) (words : List Text) (ring : RingJob) (asks : Asks words (Ring ring)) (trace : List Record) (none : trace ≡ []) (inputs : SeenInputs) (out had has : SeenSink) (d : SeenFolder) where
  pub wanted_memory : Concludes Memory status (sunk had.taken has.taken) → (status ≡ IsSinkFault → (status_of Memory ≡ IsSinkFault) ⊎ Rose had.faults has.faults)
      → IsRing status ring trace (outside inputs out had d) (outside inputs out has d)
  wanted_memory concludes cause =
      is_ring Memory status ring trace inputs out out had had has d d concludes (refused_memory ring words asks trace none d out had)
      (λ e. absurd (cc)) (λ e. absurd (cc)) cause (omega arith)

  pub refused_ring : (ending : Ending) → RefusesWords ending words → Concludes ending status (sunk had.taken has.taken)
      → (status ≡ IsSinkFault → (status_of ending ≡ IsSinkFault) ⊎ Rose had.faults has.faults)
      → IsRing status ring trace (outside inputs out had d) (outside inputs out has d)
  refused_ring Memory why concludes cause = wanted_memory concludes cause
  refused_ring Usage why concludes cause = absurd (why (Ring ring) asks)
  refused_ring Done why concludes cause = absurd why
  refused_ring (InputFault who) why concludes cause = absurd why
  refused_ring (Missing who) why concludes cause = absurd why
  refused_ring (BadElf who fault) why concludes cause = absurd why
  refused_ring TooBig why concludes cause = absurd why
  refused_ring SinkFault why concludes cause = absurd why
  refused_ring DiskFault why concludes cause = absurd why
  refused_ring NoSet why concludes cause = absurd why
  refused_ring (Damaged slot damage) why concludes cause = absurd why
  refused_ring (Budget records) why concludes cause = absurd why
  refused_ring Stuck why concludes cause = absurd why

pub refused_help : {P : Type 0} (ending : Ending) (words : List Text) → Asks words Help → RefusesWords ending words → P
refused_help Memory words asks why = absurd (why.1 asks)
refused_help Usage words asks why = absurd (why Help asks)
refused_help Done words asks why = absurd why
refused_help (InputFault who) words asks why = absurd why
refused_help (Missing who) words asks why = absurd why
refused_help (BadElf who fault) words asks why = absurd why
refused_help TooBig words asks why = absurd why
refused_help SinkFault words asks why = absurd why
refused_help DiskFault words asks why = absurd why
refused_help NoSet words asks why = absurd why
refused_help (Damaged slot damage) words asks why = absurd why
refused_help (Budget records) words asks why = absurd why
refused_help Stuck words asks why = absurd why

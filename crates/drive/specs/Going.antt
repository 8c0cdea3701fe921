-- A run on its way, as the loop that makes it has it between two records.
--     IsGoing ..         all is as the trace says, and the round has come this far
--     IsChosen ..        the same once it was chosen what is due next
--     HasEnded end ..    all that is said of a run that ended so
--     end_of stop        how it ends where a record or a checkpoint stops it
use Rattle.std.specs.Prelude.{◌≡◌, ℕ, List, Some}
use Rattle.sys_abi.specs.declared.record.Record.{Record}
use Rattle.disk_folder.specs.SeenFolder.{SeenFolder}
use Rattle.plain_machine.specs.declared.plain.Plain.{Plain}
use Rattle.trace_log.specs.declared.requests.Schedule.{Schedule}
use Rattle.trace_log.specs.Trace.{TraceState}
use Rattle.trace_log.specs.Requests.{IsAnswered}
use Rattle.trace_log.specs.Turns.{Upcoming, due_at}
use Rattle.drive.specs.HandedOn.{Stop, plain_of}
use Rattle.drive.specs.StopVariants as stopped_by
use Rattle.edge_io.specs.Sunk.{Sunk}
use Rattle.drive.specs.declared.rounds.Chosen.{Chosen}
use Rattle.drive.specs.declared.rounds.Rounds.{Rounds}
use Rattle.drive.specs.Scheduling.{IsCome, chosen}
use Rattle.checkpointer.specs.Keeping.{IsSafe}
use Rattle.checkpointer.specs.Rounds.{GoesInRounds}
use Rattle.checkpointer.specs.UnderWay.{IsUnderWay, IsSettled}
use Rattle.drive.specs.declared.loop_end.LoopEnd.{LoopEnd}
use Rattle.drive.specs.declared.loop_end.LoopEnd.TheVariants.{SinkFault, Memory}
use Rattle.drive.specs.declared.start.Start.{Start}
use Rattle.drive.specs.RunEnds.{EndsAt, EndsRun}
use Rattle.drive.specs.Pace.{KeepsPace}

pub record IsGoing (schedule : Schedule) (g : Plain) (now : Start) (rounds : Rounds) (trace : TraceState)
    (sink log : Sunk) (first disk : SeenFolder) : Type 0 where
  pub upcoming : Upcoming
  pub under : IsUnderWay schedule g (plain_of now.computation) upcoming now.checkpointer trace sink log first
      disk
  pub settled : IsSettled under.running.requests trace
  pub come : IsCome rounds (plain_of now.computation) upcoming

-- no request is open there
pub record IsChosen (schedule : Schedule) (g : Plain) (now : Start) (rounds : Rounds) (choice : Chosen)
    (trace : TraceState) (sink log : Sunk) (first disk : SeenFolder) : Type 0 where
  pub upcoming : Upcoming
  pub under : IsUnderWay schedule g (plain_of now.computation) upcoming now.checkpointer trace sink log first
      disk
  pub free : IsAnswered under.running.requests
  pub due : due_at (plain_of now.computation) upcoming
      ≡ chosen rounds (plain_of now.computation) (Some choice)

pub record HasEnded (end : LoopEnd) (schedule : Schedule) (g : Plain) (room : ℕ) (trace : List Record)
    (state : Plain) (sink log : Sunk) (first disk : SeenFolder) : Type 0 where
  pub ends : EndsRun end schedule g room trace sink log
  pub left : EndsAt end g trace state
  pub pace : KeepsPace end g trace sink log
  pub in_rounds : GoesInRounds schedule g trace
  pub safe : IsSafe g trace first disk

abbrev pub end_of : Stop → LoopEnd
end_of stopped_by.Sink = SinkFault
end_of stopped_by.Memory = Memory

-- A run on its way, as its records and its checkpointer have made it so far.
--     walk schedule g at records      how far the rounds and the requests have come after the records
--     IsRunning ..                    the trace leads to the state now, the rounds have come this far, and the
--                                     console took what belongs to it
--     IsNoted ..                      what the checkpointer knows of it, and what the log took
use Rattle.std.specs.Prelude.{◌≡◌, suc, ◌≤◌, List, [], ◌∷◌, length, Option, Some, option_and_then}
use Rattle.sys_abi.specs.declared.record.Record.{Record}
use Rattle.plain_machine.specs.declared.plain.Plain.{Plain}
use Rattle.plain_machine.specs.Records.{step}
use Rattle.plain_machine.specs.Runs.{console}
use Rattle.trace_log.specs.declared.requests.Schedule.{Schedule}
use Rattle.trace_log.specs.Requests.{NoRequest, Requests, RunsTo}
use Rattle.trace_log.specs.LogText.{at_start, after_all, log_text}
use Rattle.trace_log.specs.Turns.{Upcoming}
use Rattle.edge_io.specs.Sunk.{Sunk, Took}
use Rattle.checkpointer.specs.declared.checkpointer.Checkpointer.{Checkpointer}
use Rattle.checkpointer.specs.Rounds.{Standing, standing_after, first_standing, GoesInRounds}

unfoldable pub walk : Schedule → Plain → Standing → List Record → Option Standing
walk schedule g at [] = Some at
walk schedule g at (r ∷ records) =
    option_and_then (λ next. walk schedule next (standing_after schedule g at r) records) (step g r)

-- the trace leads to the state now in the order of the rounds, which have come this far, and the console took
-- what it writes
pub record IsRunning (schedule : Schedule) (g : Plain) (now : Plain) (upcoming : Upcoming)
    (records : List Record) (sink : Sunk) : Type 0 where
  pub requests : Requests
  pub reaches : RunsTo schedule g records now requests
  pub order : GoesInRounds schedule g records
  pub walked : walk schedule g (first_standing schedule) records ≡ Some
      (record { upcoming = upcoming; requests = requests })
  pub shown : Took sink (console g records)

-- the checkpointer knows how far the requests have come, and the log took its lines
pub record IsNoted (schedule : Schedule) (requests : Requests) (checkpointer : Checkpointer)
    (records : List Record) (log : Sunk) : Type 0 where
  pub scheduled : checkpointer.schedule ≡ schedule
  pub tallied : checkpointer.tally ≡ requests.tally
  pub lined : checkpointer.lines ≡ after_all at_start records
  pub logged : Took log (log_text records)
  pub few : checkpointer.lines.request ≤ suc (length records)
  pub dry : requests.phase ≡ NoRequest → checkpointer.lines.drained ≡ 0

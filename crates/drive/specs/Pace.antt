-- How far the console and the log come with a run by one thread: all that belongs to a record is out before
-- the next one comes. So where a sink fails, or memory is wanted, nothing is missing but a part of what
-- belongs to the last record.
--     StopsAtRecord g trace sink log       a sink failed at the last record of the trace
--     LinesOf trace lines                  the lines of a trace, all of them or cut off in that of its last record
--     KeepsPace end g trace sink log       what this says of a run by how it ended
use Rattle.std.specs.Prelude.{◌≡◌, ◌⊎◌, ℕ, true, List, [], ◌∷◌, ◌++◌, Some}
use Rattle.views.specs.Numbers.{Byte}
use Rattle.sys_abi.specs.declared.record.Record.{Record}
use Rattle.plain_machine.specs.declared.plain.Plain.{Plain}
use Rattle.plain_machine.specs.Runs.{run, console}
use Rattle.plain_machine.specs.Tests.{is_work}
use Rattle.trace_log.specs.LogText.{log_text}
use Rattle.drive.specs.declared.loop_end.LoopEnd.{LoopEnd}
use Rattle.drive.specs.declared.loop_end.LoopEnd.TheVariants.{SinkFault, Memory}
use Rattle.edge_io.specs.Sunk.{Sunk, Took}
use Rattle.checkpointer.specs.Pace.{CutLines, TookThen}

-- the trace ends with a record of work, and the console took what those before it write and a first part of
-- what it writes
pub record ConsoleStops (g : Plain) (trace : List Record) (sink : Sunk) : Type 0 where
  pub front : List Record
  pub last : Record
  pub whole : trace ≡ front ++ last ∷ []
  pub work : is_work last ≡ true
  pub before : Plain
  pub there : run g front ≡ Some before
  pub shown : TookThen sink (console g front) (console before (last ∷ []))

-- the console failed, and the log took all its lines; or the log failed, and the console took all that the
-- run writes
abbrev pub StopsAtRecord : Plain → List Record → Sunk → Sunk → Type 0
StopsAtRecord g trace sink log =
    (ConsoleStops g trace sink × Took log (log_text trace))
    ⊎ (Took sink (console g trace) × ((lines : List ℕ) × (CutLines trace lines × Took log lines)))

-- the lines of a trace, all of them or cut off in that of its last record
abbrev pub LinesOf : List Record → List Byte → Type 0
LinesOf trace lines = (lines ≡ log_text trace) ⊎ CutLines trace lines

abbrev pub KeepsPace : LoopEnd → Plain → List Record → Sunk → Sunk → Type 0
KeepsPace SinkFault g trace sink log = StopsAtRecord g trace sink log
KeepsPace Memory g trace sink log = (lines : List ℕ) × (LinesOf trace lines × Took log lines)
KeepsPace _ g trace sink log = Unit {0}

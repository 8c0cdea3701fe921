-- Runs of the plain machine, and how the one that a computation makes may end.
--     IsRun schedule g room trace state      the trace is a run from g to this state
--     EndsRun end schedule g room trace ..   how it ended, what the console took, and the log of the lines
--                                            for the checkpoints
--     KernelAtEnd g trace kernel             the kernel part at the end of the run is this one
--     EndsAt end g trace state               the state that is left is that at the end of the run; where a sink
--                                            failed its kernel part is, and an answer may not be put
use Rattle.std.specs.Prelude.{◌≡◌, ◌⊎◌, ℕ, ◌≤◌, ◌<◌, true, false, List, length, Some}
use Rattle.sys_abi.specs.declared.record.Record.{Record}
use Rattle.plain_machine.specs.declared.kernel.PlainKernel.{PlainKernel}
use Rattle.plain_machine.specs.declared.plain.Plain.{Plain}
use Rattle.plain_machine.specs.Runs.{run, console}
use Rattle.plain_machine.specs.Tests.{ended, full_arrive, IsStuck}
use Rattle.trace_log.specs.declared.requests.Schedule.{Schedule}
use Rattle.trace_log.specs.Requests.{Requests, RunsTo, IsAnswered}
use Rattle.trace_log.specs.LogText.{log_text}
use Rattle.drive.specs.declared.loop_end.LoopEnd.{LoopEnd}
use Rattle.drive.specs.declared.loop_end.LoopEnd.TheVariants.{Done, Budget, Stuck, SinkFault, Memory}
use Rattle.edge_io.specs.Sunk.{Sunk, Took, TookFront}

-- each record is a step of the plain machine, requests are made and answered as the schedule asks, and there
-- are no more records than there is room for
pub record IsRun (schedule : Schedule) (g : Plain) (room : ℕ) (trace : List Record) (state : Plain)
    : Type 0 where
  pub steps : run g trace ≡ Some state
  pub requests : Requests
  pub reaches : RunsTo schedule g trace state requests
  pub fits : length trace ≤ room

-- the console took what the run writes
pub record Shown (schedule : Schedule) (g : Plain) (room : ℕ) (trace : List Record) (sink : Sunk)
    : Type 0 where
  pub state : Plain
  pub run : IsRun schedule g room trace state
  pub console : Took sink (console g trace)

-- the console took a first part of what the run writes
pub record ShownInPart (schedule : Schedule) (g : Plain) (room : ℕ) (trace : List Record) (sink : Sunk)
    : Type 0 where
  pub state : Plain
  pub run : IsRun schedule g room trace state
  pub console : TookFront sink (console g trace)

-- nobody lives, and each request has its outcome, but for a last one that came when the trace was full
pub record RanOut (schedule : Schedule) (g : Plain) (room : ℕ) (trace : List Record) (sink : Sunk)
    : Type 0 where
  pub shown : Shown schedule g room trace sink
  pub nobody : ended shown.state ≡ true
  pub answered : IsAnswered shown.run.requests ⊎ (length trace ≡ room)

-- the trace is full, and somebody lives
pub record FilledUp (schedule : Schedule) (g : Plain) (room : ℕ) (trace : List Record) (sink : Sunk)
    : Type 0 where
  pub shown : Shown schedule g room trace sink
  pub somebody : ended shown.state ≡ false
  pub full : length trace ≡ room

-- somebody lives, and nobody can go on, though all bytes have arrived, each request has its outcome and the
-- trace has room
pub record GotStuck (schedule : Schedule) (g : Plain) (room : ℕ) (trace : List Record) (sink : Sunk)
    : Type 0 where
  pub shown : Shown schedule g room trace sink
  pub stuck : IsStuck shown.state
  pub arrived : full_arrive shown.state ≡ shown.state
  pub answered : IsAnswered shown.run.requests
  pub roomy : length trace < room

-- how a run ends: the log took the lines for the checkpoints, or a first part of them where a sink failed or
-- memory was wanted
abbrev pub EndsRun : LoopEnd → Schedule → Plain → ℕ → List Record → Sunk → Sunk → Type 0
EndsRun Done schedule g room trace sink log =
    RanOut schedule g room trace sink × Took log (log_text trace)
EndsRun Budget schedule g room trace sink log =
    FilledUp schedule g room trace sink × Took log (log_text trace)
EndsRun Stuck schedule g room trace sink log =
    GotStuck schedule g room trace sink × Took log (log_text trace)
EndsRun SinkFault schedule g room trace sink log =
    ShownInPart schedule g room trace sink × TookFront log (log_text trace)
EndsRun Memory schedule g room trace sink log =
    Shown schedule g room trace sink × TookFront log (log_text trace)

abbrev pub KernelAtEnd : Plain → List Record → PlainKernel → Type 0
KernelAtEnd g trace kernel = (last : Plain) × ((run g trace ≡ Some last) × (kernel ≡ last.kernel))

abbrev pub EndsAt : LoopEnd → Plain → List Record → Plain → Type 0
EndsAt SinkFault g trace state = KernelAtEnd g trace state.kernel
EndsAt _ g trace state = run g trace ≡ Some state

-- A run under way: the state, its checkpointer, the trace, the streams and the folder of sets, together.
--     IsUnderWay schedule g now upcoming checkpointer trace sink log first disk     all is as the trace says
--     IsBrokenOff ..     the same where the run was cut off at its last mark, of whose line the log took a
--                        first part
--     WaitsIfAsked       a request waits exactly where the last record of work asked for a checkpoint
--     IsSettled          no request waits, or there is no room for a mark
use Rattle.std.specs.Prelude.{◌≡◌, ◌⊎◌, ℕ, cond, List, []}
use Rattle.disk_folder.specs.SeenFolder.{SeenFolder}
use Rattle.plain_machine.specs.declared.plain.Plain.{Plain}
use Rattle.trace_log.specs.declared.requests.Schedule.{Schedule}
use Rattle.trace_log.specs.Trace.{TraceState}
use Rattle.trace_log.specs.Requests.{Requests, NoRequest, Requested, asks}
use Rattle.trace_log.specs.Turns.{Upcoming}
use Rattle.edge_io.specs.Sunk.{Sunk, Took}
use Rattle.checkpointer.specs.declared.checkpointer.Checkpointer.{Checkpointer}
use Rattle.checkpointer.specs.Pace.{CutLines}
use Rattle.checkpointer.specs.Running.{IsRunning, IsNoted}
use Rattle.checkpointer.specs.Keeping.{IsSafe}

pub record IsUnderWay (schedule : Schedule) (g : Plain) (now : Plain) (upcoming : Upcoming)
    (checkpointer : Checkpointer) (trace : TraceState) (sink log : Sunk) (first disk : SeenFolder)
    : Type 0 where
  pub running : IsRunning schedule g now upcoming trace.records sink
  pub noted : IsNoted schedule running.requests checkpointer trace.records log
  pub safe : IsSafe g trace.records first disk

pub record IsBrokenOff (schedule : Schedule) (g : Plain) (now : Plain) (upcoming : Upcoming)
    (trace : TraceState) (sink log : Sunk) (first disk : SeenFolder) : Type 0 where
  pub running : IsRunning schedule g now upcoming trace.records sink
  pub lines : List ℕ
  pub cut : CutLines trace.records lines
  pub logged : Took log lines
  pub safe : IsSafe g trace.records first disk

abbrev pub WaitsIfAsked : Schedule → Requests → Type 0
WaitsIfAsked schedule requests = requests.phase ≡ cond (asks schedule requests.tally) (Requested []) NoRequest

abbrev pub IsSettled : Requests → TraceState → Type 0
IsSettled requests trace = (requests.phase ≡ NoRequest) ⊎ (trace.room ≡ 0)

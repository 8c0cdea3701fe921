use Rattle.std.proofs.Common.{◌+◌, ◌*◌, ◌^◌, ◌≤◌, take}
use Rattle.trace_log.proofs.LogLines.{HasCome}
use Rattle.trace_log.proofs.log_lines.log_text.Given as goal

abbrev pub invariant-loop-event : goal.invariant-loop-event
invariant-loop-event l = record {
  come : HasCome (take l.event-index l.trace) l.so_far l.text.items;
  requests : l.so_far.request ≤ l.event-index + 1;
  bytes : l.so_far.drained ≤ l.event-index * 2 ^ 32;
}

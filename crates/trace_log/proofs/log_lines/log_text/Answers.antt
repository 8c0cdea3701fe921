use Rattle.std.proofs.Common.{arith, ◌∙◌}
use Rattle.trace_log.proofs.LogLines.{HasCome-next}
use Rattle.trace_log.proofs.log_lines.log_text.Goals as goal

pub loop-event-preserved : goal.loop-event-preserved
loop-event-preserved c = record {
  come =
      HasCome-next c.args.trace.now c.loop-event.event-index _ c.loop-event.so_far c.pass.new.self c.loop-event.text.items c.extend_from_slice.new.self.items
      c.as_bytes.result.now c.loop-event-test.true c.loop-event.invariant.come (c.as_bytes.ensures.value ∙ c.in_ok-line.ensures) c.in_ok-extend_from_slice.ensures.items c.pass.ensures.value;
  requests = omega arith;
  bytes = omega arith;
}

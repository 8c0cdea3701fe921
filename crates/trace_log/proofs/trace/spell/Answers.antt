use Rattle.std.proofs.Common.{◌∙◌, ◌++◌, ap}
use Rattle.trace_log.proofs.Lists.{Spell-more}
use Rattle.trace_log.proofs.trace.spell.Goals as goal

pub loop-event-preserved : goal.loop-event-preserved
loop-event-preserved c =
    Spell-more c.args.records.now c.loop-event.event-index _ c.loop-event.bytes.items c.extend_from_slice.new.self.items c.of.result c.loop-event-test.true
    c.loop-event.invariant c.requires c.of.ensures.in_range c.of.ensures.value (c.in_ok-extend_from_slice.ensures.items ∙ ap (λ piece. c.loop-event.bytes.items ++ piece) c.bytes.ensures)

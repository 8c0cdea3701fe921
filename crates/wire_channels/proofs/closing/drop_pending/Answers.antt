use Rattle.std.proofs.Common.{refl, ◌∙◌}
use Rattle.wire_channels.proofs.ClosedEnds.{closes-first, closes-none, shorter}
use Rattle.wire_channels.proofs.closing.drop_pending.Goals as goal

pub loop-id-init : goal.loop-id-init
loop-id-init c = refl

pub loop-id-preserved : goal.loop-id-preserved
loop-id-preserved c =
    closes-first 1 c.loop-id.channels c.drop_end.new.channels c.loop-id.queue c.pop_first.new.self c.in-Some.id c.in-Some.ensures.first c.in-Some.ensures.rest c.drop_end.ensures
    ∙ c.loop-id.invariant

pub loop-id-smaller : goal.loop-id-smaller
loop-id-smaller c = shorter c.loop-id.queue c.pop_first.new.self c.in-Some.id c.in-Some.ensures.first c.in-Some.ensures.rest

pub returns : goal.returns
returns c = closes-none 1 c.loop-id.channels c.loop-id.queue c.in_default.ensures.first ∙ c.loop-id.invariant

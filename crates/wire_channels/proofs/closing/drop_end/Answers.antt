use Rattle.wire_channels.proofs.ClosedEnds.{after_last_end}
use Rattle.wire_channels.proofs.closing.drop_end.Goals as goal

pub returns-then-not-close_end : goal.returns-then-not-close_end
returns-then-not-close_end c =
    after_last_end c.args.side c.args.channels.now c.close_end.new.channels c.remove.new.self c.args.id c.close_end.result c.close_end.ensures.open c.if-not-close_end.true c.close_end.ensures.closed c.remove.ensures.removed

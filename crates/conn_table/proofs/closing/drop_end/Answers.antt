use Rattle.conn_table.proofs.ClosedPairs.{after_other_end, after_last_end}
use Rattle.conn_table.proofs.closing.drop_end.Goals as goal

pub returns-then-not-close_end : goal.returns-then-not-close_end
returns-then-not-close_end c =
    after_last_end c.args.side c.args.pairs.now c.args.number c.close_end.new.pairs c.remove.new.self
    c.close_end.result c.close_end.ensures.open c.if-not-close_end.true c.close_end.ensures.closed
    c.remove.ensures.removed

pub returns-else-not-close_end : goal.returns-else-not-close_end
returns-else-not-close_end c =
    after_other_end c.args.side c.args.pairs.now c.args.number c.close_end.new.pairs c.close_end.result
    c.close_end.ensures.open c.if-not-close_end.false c.close_end.ensures.closed

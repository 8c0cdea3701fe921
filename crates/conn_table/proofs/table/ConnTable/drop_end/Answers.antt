use Rattle.std.proofs.Common.{ap}
use Rattle.conn_table.proofs.ClosedEnds.{after_last_end}
use Rattle.conn_table.proofs.table.ConnTable.drop_end.Goals as goal

pub returns-then-not-close_end-clause-closed : goal.returns-then-not-close_end-clause-closed
returns-then-not-close_end-clause-closed c = λ _.
    let gone = after_last_end c.args.side c.args.self.now.conns c.close_end.new.channels c.remove.new.self c.args.id c.close_end.result c.close_end.ensures.open c.if-not-close_end.true c.close_end.ensures.closed c.remove.ensures.removed in
    ap (λ conns. record c.args.self.now { conns = conns }) gone

use Rattle.std.proofs.Common.{ap, ◌∙◌}
use Rattle.std.specs.FinMap as map
use Rattle.id_maps.proofs.OfViews.Outcomes.{on_some}
use Rattle.conn_table.specs.Pairs.{stays_open}
use Rattle.conn_table.proofs.ClosedPairs.{changed_found}
use Rattle.conn_table.proofs.closing.close_end.Goals as goal

pub returns-clause-open : goal.returns-clause-open
returns-clause-open c = c.close.ensures.open ∙ ap (stays_open c.args.side) c.in-Some.ensures.value

pub returns-clause-closed : goal.returns-clause-closed
returns-clause-closed c =
    on_some c.in-Some.is (c.get_mut.follows.holds c.close.new.self)
    ∙ ap (map.insert c.args.pairs.now c.args.number) c.close.ensures.closed
    ∙ changed_found c.args.side c.args.pairs.now c.args.number c.in-Some.pair.now c.in-Some.ensures.value

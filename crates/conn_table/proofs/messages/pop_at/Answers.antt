use Rattle.std.proofs.Common.{ap, ◌∙◌}
use Rattle.std.specs.FinMap as map
use Rattle.id_maps.proofs.OfViews.Outcomes.{on_some}
use Rattle.conn_table.specs.Messages.{without_first}
use Rattle.conn_table.proofs.SentMessages.{changed_at}
use Rattle.conn_table.proofs.messages.pop_at.Goals as goal

pub returns-clause-rest : goal.returns-clause-rest
returns-clause-rest c =
    on_some c.in-Some.is (c.get_mut.follows.holds c.pop.new.self)
    ∙ ap (map.insert c.args.pairs.now c.args.number) c.pop.ensures.rest
    ∙ changed_at c.args.pairs.now c.args.number c.in-Some.pair.now c.in-Some.ensures.value
    (without_first c.args.side)

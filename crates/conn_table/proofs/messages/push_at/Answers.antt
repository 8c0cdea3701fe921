use Rattle.std.proofs.Common.{ap, ◌∙◌}
use Rattle.std.specs.FinMap as map
use Rattle.id_maps.proofs.OfViews.Outcomes.{on_some, on_ok_then, on_err_then}
use Rattle.conn_table.specs.Messages.{with_sent}
use Rattle.conn_table.proofs.SentMessages.{changed_at, same_at}
use Rattle.conn_table.proofs.messages.push_at.Goals as goal

pub returns-clause-ok : goal.returns-clause-ok
returns-clause-ok c = on_ok_then c.push.result c.push.ensures.ok (λ is.
    on_some c.in-Some.is (c.get_mut.follows.holds c.push.new.self)
    ∙ ap (map.insert c.args.pairs.now c.args.number) is
    ∙ changed_at c.args.pairs.now c.args.number c.in-Some.pair.now c.in-Some.ensures.value
    (with_sent c.args.side c.args.message))

pub returns-clause-err : goal.returns-clause-err
returns-clause-err c = on_err_then c.push.result c.push.ensures.err (λ is.
    on_some c.in-Some.is (c.get_mut.follows.holds c.push.new.self)
    ∙ ap (map.insert c.args.pairs.now c.args.number) is
    ∙ same_at c.args.pairs.now c.args.number c.in-Some.pair.now c.in-Some.ensures.value)

use Rattle.std.proofs.Common.{ap, ◌∙◌}
use Rattle.std.specs.FinMap as map
use Rattle.virt_ids.proofs.OfViews.Outcomes.{on_some}
use Rattle.wire_channels.specs.Channels.{without_end, stays_open}
use Rattle.virt_ids.proofs.Lends.{changed-found}
use Rattle.wire_channels.proofs.closing.close_end.Goals as goal

pub returns-clause-open : goal.returns-clause-open
returns-clause-open c = c.close_end.ensures.open ∙ ap (stays_open c.args.side) c.in-Some.ensures.value

pub returns-clause-closed : goal.returns-clause-closed
returns-clause-closed c =
    on_some c.in-Some.is (c.get_mut.follows.holds c.close_end.new.self) ∙ ap (map.insert c.args.channels.now c.args.id) c.close_end.ensures.closed
    ∙ changed-found c.args.channels.now c.args.id (without_end c.args.side) c.in-Some.channel.now c.in-Some.ensures.value

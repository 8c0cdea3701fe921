use Rattle.std.proofs.Common.{ap, ◌∙◌}
use Rattle.std.specs.FinMap as map
use Rattle.plain_tables.specs.Closing.{with_closed}
use Rattle.plain_tables.proofs.Lends.{changed-found}
use Rattle.plain_tables.proofs.closing.close_at.Goals as goal
use Rattle.plain_process.proofs.OfViews.Outcomes.{on_some}

pub returns-in-Some : goal.returns-in-Some
returns-in-Some c =
    on_some c.in-Some.is (c.get_mut.follows.holds c.close.new.self) ∙ ap (map.insert c.args.channels.now c.args.conn) c.close.ensures
    ∙ changed-found c.args.channels.now c.args.conn (with_closed c.args.side) c.in-Some.channel.now c.in-Some.ensures.value

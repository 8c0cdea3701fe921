use Rattle.std.proofs.Common.{ap, ◌∙◌}
use Rattle.std.specs.FinMap as map
use Rattle.plain_tables.specs.Closing.{with_end}
use Rattle.plain_tables.proofs.Lends.{changed-found}
use Rattle.plain_tables.proofs.closing.end_at.Goals as goal
use Rattle.plain_process.proofs.OfViews.Outcomes.{on_some}

pub returns-in-Some : goal.returns-in-Some
returns-in-Some c =
    on_some c.in-Some.is (c.get_mut.follows.holds c.end.new.self) ∙ ap (map.insert c.args.directions.now c.args.at) c.end.ensures
    ∙ changed-found c.args.directions.now c.args.at with_end c.in-Some.direction.now c.in-Some.ensures.value

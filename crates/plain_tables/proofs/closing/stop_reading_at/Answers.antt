use Rattle.std.proofs.Common.{ap, ◌∙◌}
use Rattle.std.specs.FinMap as map
use Rattle.plain_tables.specs.Closing.{without_reader}
use Rattle.plain_tables.proofs.Lends.{changed-found}
use Rattle.plain_tables.proofs.closing.stop_reading_at.Goals as goal
use Rattle.plain_process.proofs.OfViews.Outcomes.{on_some}

pub returns-in-Some : goal.returns-in-Some
returns-in-Some c =
    on_some c.in-Some.is (c.get_mut.follows.holds c.stop_reading.new.self) ∙ ap (map.insert c.args.directions.now c.args.at) c.stop_reading.ensures
    ∙ changed-found c.args.directions.now c.args.at without_reader c.in-Some.direction.now c.in-Some.ensures.value

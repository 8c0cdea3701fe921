use Rattle.std.proofs.Common.{ap, ◌∙◌}
use Rattle.std.specs.FinMap as map
use Rattle.plain_machine.specs.Transfers.Streams.{without_front}
use Rattle.plain_machine.proofs.OfPlainTables.Lends.{changed-found}
use Rattle.views.proofs.Outcomes.{on_some}
use Rattle.plain_transfers.proofs.streams.drop_at.Goals as goal

pub returns-in-Some : goal.returns-in-Some
returns-in-Some c =
    on_some c.in-Some.is (c.get_mut.follows.holds c.drop_bytes.new.direction) ∙ ap (map.insert c.args.directions.now c.args.at) c.drop_bytes.ensures
    ∙ changed-found c.args.directions.now c.args.at (without_front c.args.count) c.in-Some.direction.now c.in-Some.ensures.value

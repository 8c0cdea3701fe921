use Rattle.std.proofs.Common.{ap, ◌∙◌}
use Rattle.std.specs.FinMap as map
use Rattle.virt_ids.proofs.OfViews.Outcomes.{on_some}
use Rattle.wire_channels.specs.Directions.{after_stop_reading}
use Rattle.wire_channels.specs.Channels.{at_side}
use Rattle.virt_ids.proofs.Lends.{changed-found}
use Rattle.wire_channels.proofs.moving.stop_reading_on.Goals as goal

pub returns-in-Some : goal.returns-in-Some
returns-in-Some c =
    on_some c.in-Some.is (c.get_mut.follows.holds c.stop_reading.new.self) ∙ ap (map.insert c.args.channels.now c.args.d.conn) c.stop_reading.ensures
    ∙ changed-found c.args.channels.now c.args.d.conn (at_side c.args.d.side after_stop_reading) c.in-Some.channel.now c.in-Some.ensures.value

use Rattle.std.proofs.Common.{ap, ◌∙◌}
use Rattle.std.specs.FinMap as map
use Rattle.plain_machine.specs.Transfers.Streams.{with_sent}
use Rattle.plain_machine.proofs.OfPlainTables.Lends.{changed-found}
use Rattle.views.proofs.Outcomes.{on_some, on_ok_then}
use Rattle.plain_transfers.proofs.streams.append_at.Goals as goal

pub returns-in-Some : goal.returns-in-Some
returns-in-Some c = on_ok_then c.append_bytes.result c.append_bytes.ensures (λ is.
    on_some c.in-Some.is (c.get_mut.follows.holds c.append_bytes.new.direction) ∙ ap (map.insert c.args.directions.now c.args.at) is
    ∙ changed-found c.args.directions.now c.args.at (with_sent c.args.bytes.now) c.in-Some.direction.now c.in-Some.ensures.value)

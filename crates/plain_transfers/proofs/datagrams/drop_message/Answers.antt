use Rattle.std.proofs.Common.{ap, ◌∙◌}
use Rattle.std.specs.Prelude.{drop}
use Rattle.std.specs.FinMap as map
use Rattle.plain_machine.proofs.OfPlainTables.Lends.{changed-found}
use Rattle.views.proofs.Outcomes.{on_some}
use Rattle.plain_transfers.proofs.datagrams.drop_message.Goals as goal

pub returns-in-Some : goal.returns-in-Some
returns-in-Some c =
    on_some c.in-Some.is (c.get_mut.follows.holds c.drop_first.new.list) ∙ ap (map.insert c.args.inboxes.now c.args.end) c.drop_first.ensures
    ∙ changed-found c.args.inboxes.now c.args.end (drop 1) c.in-Some.messages.now c.in-Some.ensures.value

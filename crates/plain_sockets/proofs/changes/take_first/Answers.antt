use Rattle.std.proofs.Common.{ap, ◌∙◌}
use Rattle.std.specs.FinMap as map
use Rattle.plain_machine.specs.SocketWords.{without_first}
use Rattle.plain_tables.proofs.Lends.{changed-found}
use Rattle.plain_sockets.proofs.changes.take_first.Goals as goal
use Rattle.views.proofs.Outcomes.{on_some}

pub returns-in-Some : goal.returns-in-Some
returns-in-Some c =
    on_some c.in-Some.is (c.get_mut.follows.holds c.drop_first.new.listening) ∙ ap (map.insert c.args.listeners.now c.args.address) c.drop_first.ensures
    ∙ changed-found c.args.listeners.now c.args.address without_first c.in-Some.listening.now c.in-Some.ensures.value

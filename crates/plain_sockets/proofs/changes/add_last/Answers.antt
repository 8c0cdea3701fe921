use Rattle.std.proofs.Common.{ap, ◌∙◌}
use Rattle.std.specs.FinMap as map
use Rattle.plain_machine.specs.SocketWords.{with_last}
use Rattle.plain_tables.proofs.Lends.{changed-found}
use Rattle.plain_sockets.proofs.changes.add_last.Goals as goal
use Rattle.views.proofs.Outcomes.{on_some, on_ok_then}

pub returns-in-Some : goal.returns-in-Some
returns-in-Some c = record {
  ok = on_ok_then c.push.result c.push.ensures.ok (λ is.
      on_some c.in-Some.is (c.get_mut.follows.holds c.push.new.listening) ∙ ap (map.insert c.args.listeners.now c.args.address) is
      ∙ changed-found c.args.listeners.now c.args.address (with_last c.args.conn) c.in-Some.listening.now c.in-Some.ensures.value);
}

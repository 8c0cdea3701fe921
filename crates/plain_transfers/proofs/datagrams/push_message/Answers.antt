use Rattle.std.proofs.Common.{ap, ◌∙◌}
use Rattle.std.specs.Prelude.{[], ◌∷◌, ◌++◌}
use Rattle.std.specs.FinMap as map
use Rattle.plain_machine.proofs.OfPlainTables.Lends.{changed-found}
use Rattle.views.proofs.Outcomes.{on_some, on_ok_then}
use Rattle.plain_transfers.proofs.datagrams.push_message.Goals as goal

pub returns-in-Some : goal.returns-in-Some
returns-in-Some c = on_ok_then c.push.result c.push.ensures.ok (λ is.
    on_some c.in-Some.is (c.get_mut.follows.holds c.push.new.self) ∙ ap (map.insert c.args.inboxes.now c.args.end) is
    ∙ changed-found c.args.inboxes.now c.args.end (λ messages. messages ++ c.args.message ∷ []) c.in-Some.messages.now c.in-Some.ensures.value)

use Rattle.std.proofs.Common.{◌≡◌, ◌≢◌, ◌∙◌, ap, List, ℕ, drop, take, length, arith}
use Rattle.std.proofs.lemmas.Bool.Decides.{nat_tests}
use Rattle.wire_channels.specs.Directions.{after_send}
use Rattle.wire_channels.specs.Channels.{direction_at, at_direction}
use Rattle.drain_core.specs.Tasks.{unsent}
use Rattle.drain_core.proofs.OneStep.{with_channels, nothing_sent, some_sent, sent_some}
use Rattle.drain_core.proofs.notes.send_cookie.Goals as goal

pub returns-then-is_empty-clause-net : goal.returns-then-is_empty-clause-net
returns-then-is_empty-clause-net c = nothing_sent c.args.net.now c.args.notes.now.dir c.args.notes.now

pub returns-in_default-clause-net : goal.returns-in_default-clause-net
returns-in_default-clause-net c = c.in_default.ensures.err ∙ nothing_sent c.args.net.now c.args.notes.now.dir c.args.notes.now

pub returns-clause-net : goal.returns-clause-net
returns-clause-net c =
    let some : length c.rest_of-rest.result.now ≢ 0 = grind (arith, nat_tests, c.if-is_empty.ensures) in
    let rest : c.rest_of-rest.result.now ≡ unsent c.args.notes.now = c.rest_of-rest.ensures ∙ ap (drop c.args.notes.now.sent) c.cookie_of-cookie.ensures in
    c.in-Ok.ensures.ok
    ∙ ap (λ (text : List ℕ). with_channels c.args.net.now (at_direction c.args.net.now.channels c.args.notes.now.dir (after_send (take c.in-Ok.count text)))) rest
    ∙ sent_some c.args.net.now c.args.notes.now.dir c.args.notes.now c.in-Ok.count
    (some_sent (direction_at c.args.net.now.channels c.args.notes.now.dir) (length c.rest_of-rest.result.now) c.in-Ok.count c.requires.flows some c.in-Ok.ensures.answer)

use Rattle.std.proofs.Common.{◌≢◌, ◌∙◌, length, arith}
use Rattle.std.proofs.lemmas.Bool.Decides.{nat_tests}
use Rattle.wire_channels.specs.Channels.{direction_at}
use Rattle.refill_core.proofs.OneCall.{nothing_sent, some_sent, sent_some}
use Rattle.refill_core.proofs.network.send_some.Goals as goal

pub returns-then-is_empty-clause-net : goal.returns-then-is_empty-clause-net
returns-then-is_empty-clause-net c = nothing_sent c.args.net.now c.args.d c.args.piece.now

pub returns-in_default-clause-net : goal.returns-in_default-clause-net
returns-in_default-clause-net c = c.in_default.ensures.err ∙ nothing_sent c.args.net.now c.args.d c.args.piece.now

pub returns-clause-net : goal.returns-clause-net
returns-clause-net c =
    let some : length c.args.piece.now ≢ 0 = grind (arith, nat_tests, c.if-is_empty.ensures) in
    c.in-Ok.ensures.ok
    ∙ sent_some c.args.net.now c.args.d c.args.piece.now c.in-Ok.count
    (some_sent (direction_at c.args.net.now.channels c.args.d) (length c.args.piece.now) c.in-Ok.count c.requires.flows some c.in-Ok.ensures.answer)

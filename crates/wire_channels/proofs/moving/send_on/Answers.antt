use Rattle.std.proofs.Common.{length, take, sym, ap, ◌∙◌}
use Rattle.std.specs.Option.{option_map}
use Rattle.std.specs.FinMap as map
use Rattle.std.proofs.lemmas.Result.{IfOk-weaker}
use Rattle.virt_ids.proofs.OfViews.MapLaws.{insert_same}
use Rattle.virt_ids.proofs.OfViews.Outcomes.{on_some, on_err_then}
use Rattle.virt_ids.proofs.OfSysAbi.OrderLaws.{conn_total, conn_exact}
use Rattle.wire_channels.specs.Directions.{after_send}
use Rattle.wire_channels.specs.Channels.{direction_of, at_side}
use Rattle.wire_channels.specs.Answers.{send_answer_on}
use Rattle.virt_ids.proofs.Lends.{changed-found}
use Rattle.wire_channels.proofs.moving.send_on.Goals as goal

pub returns-clause-answer : goal.returns-clause-answer
returns-clause-answer c =
    c.send.ensures.answer ∙ ap (λ found. send_answer_on (option_map (direction_of c.args.d.side) found) (length c.args.piece.now)) c.in-Some.ensures.value

pub returns-clause-ok : goal.returns-clause-ok
returns-clause-ok c = IfOk-weaker c.send.result _ _
    (λ count is.
    on_some c.in-Some.is (c.get_mut.follows.holds c.send.new.self) ∙ ap (map.insert c.args.channels.now c.args.d.conn) is
    ∙ changed-found c.args.channels.now c.args.d.conn (at_side c.args.d.side (after_send (take count c.args.piece.now))) c.in-Some.channel.now c.in-Some.ensures.value) c.send.ensures.ok

pub returns-clause-err : goal.returns-clause-err
returns-clause-err c = on_err_then c.send.result c.send.ensures.err (λ same.
    on_some c.in-Some.is (c.get_mut.follows.holds c.send.new.self) ∙ ap (map.insert c.args.channels.now c.args.d.conn) same
    ∙ insert_same conn_total conn_exact c.args.channels.now c.args.d.conn c.in-Some.channel.now (sym c.in-Some.ensures.value))

use Rattle.std.proofs.Common.{take, sym, ap, ◌∙◌}
use Rattle.std.specs.Option.{option_map}
use Rattle.std.specs.FinMap as map
use Rattle.std.proofs.lemmas.Result.{IfOk-weaker}
use Rattle.virt_ids.proofs.OfViews.MapLaws.{insert_same}
use Rattle.virt_ids.proofs.OfViews.Outcomes.{on_some, on_err_then}
use Rattle.virt_ids.proofs.OfSysAbi.OrderLaws.{conn_total, conn_exact}
use Rattle.wire_channels.specs.Directions.{after_receive}
use Rattle.wire_channels.specs.Channels.{direction_of, at_side}
use Rattle.wire_channels.specs.Answers.{receive_answer_on, received_on}
use Rattle.virt_ids.proofs.Lends.{changed-found}
use Rattle.wire_channels.proofs.moving.receive_on.Goals as goal

pub returns-clause-answer : goal.returns-clause-answer
returns-clause-answer c =
    c.receive.ensures.answer ∙ ap (λ found. receive_answer_on (option_map (direction_of c.args.d.side) found) c.args.n) c.in-Some.ensures.value

pub returns-clause-ok : goal.returns-clause-ok
returns-clause-ok c = IfOk-weaker c.receive.result _ _
    (λ count is.
    on_some c.in-Some.is (c.get_mut.follows.holds c.receive.new.self) ∙ ap (map.insert c.args.channels.now c.args.d.conn) is
    ∙ changed-found c.args.channels.now c.args.d.conn (at_side c.args.d.side (after_receive count)) c.in-Some.channel.now c.in-Some.ensures.value) c.receive.ensures.ok

pub returns-clause-taken : goal.returns-clause-taken
returns-clause-taken c = IfOk-weaker c.receive.result _ _
    (λ count is. is ∙ ap (λ found. take count (received_on (option_map (direction_of c.args.d.side) found))) c.in-Some.ensures.value) c.receive.ensures.taken

pub returns-clause-err : goal.returns-clause-err
returns-clause-err c = on_err_then c.receive.result c.receive.ensures.err (λ same.
    on_some c.in-Some.is (c.get_mut.follows.holds c.receive.new.self) ∙ ap (map.insert c.args.channels.now c.args.d.conn) same
    ∙ insert_same conn_total conn_exact c.args.channels.now c.args.d.conn c.in-Some.channel.now (sym c.in-Some.ensures.value))

use Rattle.std.proofs.Common.{ℕ, List, take, None, sym, ap, ◌∙◌, subst, arith, length}
use Rattle.plain_tables.specs.Objects.{dir}
use Rattle.plain_machine.specs.Transfers.Streams.{write_stream}
use Rattle.wire_channels.specs.Answers.{send_answer_on}
use Rattle.wire_channels.specs.Channels.{direction_at, at_direction}
use Rattle.wire_channels.specs.Directions.{after_send}
use Rattle.wire_net.specs.Networks.{Network}
use Rattle.host_processes.specs.OfHostTables.declared.attempt.Attempt.TheVariants as answer
use Rattle.host_processes.specs.OfHostTables.Serves.{Serves, ByNumber, same}
use Rattle.host_processes.specs.OfHostTables.Stands.{Stands}
use Rattle.host_streams.proofs.WriteRows.{taking, write_refused, write_sent, sent_answer}
use Rattle.host_streams.proofs.writing.write_stream.Goals as goal

pub returns-then-side-gt1-clause-row : goal.returns-then-side-gt1-clause-row
returns-then-side-gt1-clause-row c g k p whole st paired t at =
    let d = dir c.args.conn c.args.side in
    let far = c.if-side-gt1.true in
    write_refused g c.args.kernel.now k st p t d c.args.count c.args.transfer.now
    (st.directions.no_other d (omega (arith, far)))

pub returns-in-Ok-clause-row : goal.returns-in-Ok-clause-row
returns-in-Ok-clause-row c g k p whole st paired t at =
    let real = c.args.kernel.now in
    let d = dir c.args.conn c.args.side in
    let given = c.args.transfer.now in
    let near = c.if-side-gt1.false in
    let answers = sym (ap (λ (bytes : List ℕ). send_answer_on (direction_at real.net.channels d) (length bytes))
    c.as_slice.ensures.value) ∙ sym c.in-Ok.ensures.answer in
    let found = taking (direction_at real.net.channels d) (length given) c.in-Ok.sent answers in
    let flows = found.1.1 in
    subst (λ (w : Network). Serves ByNumber same g real (record real { net = w }) given given
    (answer.Gives c.in-Ok.sent) (write_stream k p t d c.args.count given))
    (sym (c.in-Ok.ensures.ok ∙ ap (λ (bytes : List ℕ). record real.net {
      channels = at_direction real.net.channels d (after_send (take c.in-Ok.sent bytes));
    }) c.as_slice.ensures.value))
    (write_sent g real k st p t d c.args.count given (omega (arith, near)) found.0 found.1.0
    c.if-count-eq0.false flows c.in-Ok.sent
    (sent_answer found.0 (length given) flows c.in-Ok.sent
    (sym (ap (λ o. send_answer_on o (length given)) found.1.0) ∙ answers)))

pub returns-in-Err-clause-row : goal.returns-in-Err-clause-row
returns-in-Err-clause-row c g k p whole st paired t at =
    let real = c.args.kernel.now in
    let d = dir c.args.conn c.args.side in
    let given = c.args.transfer.now in
    subst (λ (w : Network). Serves ByNumber same g (record real { net = w }) c.unsent-in-Err.new.kernel given given
    c.unsent-in-Err.result (write_stream k p t d c.args.count given)) c.in-Err.ensures.err
    (c.unsent-in-Err.ensures.row g k p whole
    (subst (λ (w : Network). Stands g None (record real { net = w }) k) (sym c.in-Err.ensures.err) st) paired t at)

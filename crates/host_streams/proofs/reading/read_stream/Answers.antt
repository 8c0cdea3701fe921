use Rattle.std.proofs.Common.{◌-◌, min, take, length, sym, ap, ◌∙◌, subst, arith}
use Rattle.plain_tables.specs.Objects.{dir}
use Rattle.plain_machine.specs.Transfers.Streams.{read_stream}
use Rattle.wire_channels.specs.Answers.{received_on, receive_answer_on}
use Rattle.wire_channels.specs.Channels.{direction_at}
use Rattle.wire_net.specs.Networks.{Network}
use Rattle.host_processes.specs.OfHostTables.Serves.{Serves, ByNumber, same}
use Rattle.host_processes.specs.OfHostTables.declared.attempt.Attempt.TheVariants as answer
use Rattle.host_streams.proofs.ReadRows.{read_refused, read_nothing, read_some, received_there, taken_told}
use Rattle.host_streams.proofs.Readiness.{direction_gone, direction_found}
use Rattle.host_streams.proofs.reading.read_stream.Goals as goal

pub returns-then-not-has-clause-row : goal.returns-then-not-has-clause-row
returns-then-not-has-clause-row c g k st =
    let real = c.args.kernel.now in
    let d = dir c.args.conn (1 - c.args.side) in
    read_refused g real k st d (omega arith) c.args.count c.args.transfer.now
    (direction_gone real.net.channels d (sym c.has.ensures ∙ c.if-not-has.true))

pub returns-then-waiting-eq0-clause-row : goal.returns-then-waiting-eq0-clause-row
returns-then-waiting-eq0-clause-row c g k st =
    let real = c.args.kernel.now in
    let side = c.across.ensures in
    let d = dir c.args.conn c.across.result in
    let found = direction_found real.net.channels d (sym c.has.ensures ∙ c.if-not-has.false) in
    subst (λ s. Serves ByNumber same g real real c.args.transfer.now c.args.transfer.now (answer.Gives 0)
    (read_stream k (dir c.args.conn s) c.args.count)) side
    (read_nothing g real k st d (omega (arith, side)) c.args.count c.args.transfer.now found.0 found.1
    (sym (ap (min c.args.count) (c.received_at.ensures.count ∙ ap (λ o. length (received_on o)) found.1))
    ∙ sym c.min-waiting.ensures ∙ c.if-waiting-eq0.true))

pub returns-in-Ok-clause-row : goal.returns-in-Ok-clause-row
returns-in-Ok-clause-row c g k st =
    let real = c.args.kernel.now in
    let side = c.across.ensures in
    let d = dir c.args.conn c.across.result in
    let before = c.args.transfer.now in
    let now = c.receive.new.xfer in
    let counts = ap (min c.args.count) c.received_at.ensures.count in
    let found = received_there (direction_at real.net.channels d) c.args.count
    (λ none. c.if-waiting-eq0.false (c.min-waiting.ensures ∙ counts ∙ none)) in
    let y = found.0 in
    let waits = counts ∙ ap (λ o. min c.args.count (length (received_on o))) found.1 in
    let answers = ap (λ o. receive_answer_on o c.min-waiting.result) found.1 in
    let told = taken_told y c.args.count c.min-waiting.result (sym waits
    ∙ sym c.min-waiting.ensures) c.if-waiting-eq0.false c.in-Ok.taken
    (c.in-Ok.ensures.answer ∙ answers) in
    subst (λ s. Serves ByNumber same g real (record real { net = c.receive.new.self }) before now
    (answer.Gives c.in-Ok.taken) (read_stream k (dir c.args.conn s) c.args.count)) side
    (subst (λ (w : Network). Serves ByNumber same g real (record real { net = w }) before now
    (answer.Gives c.in-Ok.taken) (read_stream k d c.args.count)) (sym c.in-Ok.ensures.ok)
    (read_some g real k st d (omega
    (arith, side)) c.args.count before y found.1 c.in-Ok.taken told.0 told.1 now
    (c.in-Ok.ensures.taken ∙ ap (λ o. take c.in-Ok.taken (received_on o)) found.1)))

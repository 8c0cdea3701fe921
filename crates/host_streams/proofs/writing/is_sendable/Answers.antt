use Rattle.std.proofs.Common.{sym, ap, ◌∙◌, arith}
use Rattle.plain_tables.specs.Objects.{dir}
use Rattle.plain_machine.specs.Transfers.Streams.{is_sendable}
use Rattle.host_streams.proofs.Readiness.{sendable_told}
use Rattle.host_streams.proofs.writing.is_sendable.Goals as goal

pub returns-then-side-gt1 : goal.returns-then-side-gt1
returns-then-side-gt1 c g k st =
    let far = c.if-side-gt1.true in
    sym (ap (is_sendable c.args.count)
    (st.directions.no_other (dir c.args.conn c.args.side) (omega (arith, far))))

pub returns : goal.returns
returns c g k st =
    let near = c.if-side-gt1.false in
    c.can_send.ensures
    ∙ sendable_told g c.args.kernel.now k st (dir c.args.conn c.args.side) (omega (arith, near)) c.args.count

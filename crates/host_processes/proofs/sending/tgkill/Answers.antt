use Rattle.std.proofs.Common.{Some, sym, ◌∙◌, subst}
use Rattle.host_descriptors.specs.OfHostTables.Serves.{Serves, ByNumber, same}
use Rattle.plain_machine.specs.Rows.Send.{tgkill_row}
use Rattle.host_processes.specs.Raises.{with_raised}
use Rattle.host_processes.proofs.SendRows.{tgkill_bad, tgkill_none, tgkill_no_thread, tgkill_sent}
use Rattle.host_processes.proofs.sending.tgkill.Goals as goal

pub returns-then-not-may_send : goal.returns-then-not-may_send
returns-then-not-may_send c who g k p whole st paired x target thread =
    tgkill_bad g c.args.kernel.now k st p c.args.number c.args.signal x whole who paired c.args.tid
    (sym c.may_send.ensures ∙ c.if-not-may_send.true)

pub returns-in_default : goal.returns-in_default
returns-in_default c who g k p whole st paired x target thread =
    tgkill_none g c.args.kernel.now k st p c.args.number c.args.signal x whole who paired c.args.tid
    (sym c.may_send.ensures ∙ c.if-not-may_send.false) (sym c.in_default.is ∙ target)

pub returns-in_default-thread : goal.returns-in_default-thread
returns-in_default-thread c who g k p whole st paired x target thread =
    tgkill_no_thread g c.args.kernel.now k st p c.args.number c.args.signal x whole who paired c.args.tid
    c.in-Some.target (sym c.in-Some.is ∙ target) (sym c.may_send.ensures ∙ c.if-not-may_send.false)
    (sym c.in_default-thread.is ∙ thread)

pub returns : goal.returns
returns c who g k p whole st paired x target thread =
    let real = c.args.kernel.now in
    let row = tgkill_row k p c.args.number c.args.tid c.args.signal in
    let u = c.in-Some-thread.thread in
    subst (λ n. Serves ByNumber same g real n x x c.raise.result row) (sym c.raise.ensures.raised)
    (subst (λ a. Serves ByNumber same g real (with_raised real c.in-Some.target (Some u) c.args.signal) x x a
    row)
    (sym c.raise.ensures.answer)
    (tgkill_sent g real k st p c.args.number c.args.signal x whole who paired c.args.tid c.in-Some.target
    (sym c.in-Some.is ∙ target) u (sym c.in-Some-thread.is ∙ thread)
    (sym c.may_send.ensures ∙ c.if-not-may_send.false)))

use Rattle.std.proofs.Common.{None, sym, ◌∙◌, subst}
use Rattle.host_descriptors.specs.OfHostTables.Serves.{Serves, ByNumber, same}
use Rattle.plain_machine.specs.Rows.Send.{kill_row}
use Rattle.host_processes.specs.Raises.{with_raised}
use Rattle.host_processes.proofs.SendRows.{kill_bad, kill_none, kill_sent}
use Rattle.host_processes.proofs.sending.kill.Goals as goal

pub returns-then-not-may_send : goal.returns-then-not-may_send
returns-then-not-may_send c who g k p whole st paired x target =
    kill_bad g c.args.kernel.now k st p c.args.number c.args.signal x
    (sym c.may_send.ensures ∙ c.if-not-may_send.true)

pub returns-in_default : goal.returns-in_default
returns-in_default c who g k p whole st paired x target =
    kill_none g c.args.kernel.now k st p c.args.number c.args.signal x
    (sym c.may_send.ensures ∙ c.if-not-may_send.false) (sym c.in_default.is ∙ target)

pub returns : goal.returns
returns c who g k p whole st paired x target =
    let real = c.args.kernel.now in
    let row = kill_row k p c.args.number c.args.signal in
    subst (λ n. Serves ByNumber same g real n x x c.raise.result row) (sym c.raise.ensures.raised)
    (subst (λ a. Serves ByNumber same g real (with_raised real c.in-Some.target None c.args.signal) x x a row)
    (sym c.raise.ensures.answer)
    (kill_sent g real k st p c.args.number c.args.signal x (sym c.may_send.ensures ∙ c.if-not-may_send.false)
    c.in-Some.target (sym c.in-Some.is ∙ target)))

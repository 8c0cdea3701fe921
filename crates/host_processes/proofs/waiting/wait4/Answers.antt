use Rattle.std.proofs.Common.{None, Some, sym, ◌∙◌}
use Rattle.proc_book.specs.Procs.{wait_for}
use Rattle.plain_machine.specs.Rows.Wait.{wait4_row}
use Rattle.host_processes.proofs.WaitRow.{told, wait_bad, wait_stranger, any_waited, one_waited}
use Rattle.host_processes.proofs.waiting.wait4.Goals as goal

pub returns-then-not-may_be_asked : goal.returns-then-not-may_be_asked
returns-then-not-may_be_asked c g k p whole st paired target =
    wait_bad g c.args.kernel.now c.args.who c.args.options c.args.transfer.now k st whole p paired
    c.args.number
    c.args.usage (sym c.may_be_asked.ensures ∙ c.if-not-may_be_asked.true)

pub returns-then-number-eq-ANY_CHILD : goal.returns-then-number-eq-ANY_CHILD
returns-then-number-eq-ANY_CHILD c g k p whole st paired target =
    let real = c.args.kernel.now in
    told g real c.args.who c.args.options c.args.transfer.now (wait_for real.procs.processes c.args.who None)
    (wait4_row k p c.args.number c.args.options c.args.usage) c.wait.new.kernel c.wait.new.transfer
    c.wait.result
    c.wait.ensures.answer c.wait.ensures.bytes c.wait.ensures.gone
    (any_waited g real c.args.who c.args.options c.args.transfer.now k st whole p paired c.args.number
    c.args.usage (sym c.may_be_asked.ensures ∙ c.if-not-may_be_asked.false) c.if-number-eq-ANY_CHILD.true)

pub returns-in_default : goal.returns-in_default
returns-in_default c g k p whole st paired target =
    wait_stranger g c.args.kernel.now c.args.who c.args.options c.args.transfer.now k st whole p paired
    c.args.number c.args.usage (sym c.may_be_asked.ensures ∙ c.if-not-may_be_asked.false)
    c.if-number-eq-ANY_CHILD.false (sym c.in_default.is ∙ target)

pub returns : goal.returns
returns c g k p whole st paired target =
    let real = c.args.kernel.now in
    let r = c.in-Some.child in
    told g real c.args.who c.args.options c.args.transfer.now
    (wait_for real.procs.processes c.args.who (Some r))
    (wait4_row k p c.args.number c.args.options c.args.usage) c.wait-2.new.kernel c.wait-2.new.transfer
    c.wait-2.result c.wait-2.ensures.answer c.wait-2.ensures.bytes c.wait-2.ensures.gone
    (one_waited g real c.args.who c.args.options c.args.transfer.now k st whole p paired c.args.number
    c.args.usage (sym c.may_be_asked.ensures ∙ c.if-not-may_be_asked.false) c.if-number-eq-ANY_CHILD.false r
    (sym c.in-Some.is ∙ target))

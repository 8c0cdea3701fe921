use Rattle.std.proofs.Common.{sym, ap, ◌∙◌}
use Rattle.host_processes.specs.Waits.{is_answered}
use Rattle.host_processes.proofs.ReadyWaits.{any_told, one_told, none_told}
use Rattle.host_processes.proofs.waiting.is_told.Goals as goal

pub returns-then-number-eq-ANY_CHILD : goal.returns-then-number-eq-ANY_CHILD
returns-then-number-eq-ANY_CHILD c g k p whole st paired target =
    c.is_answered.ensures ∙ ap is_answered c.look.ensures.found
    ∙ any_told g c.args.kernel.now k st whole p c.args.who paired c.args.number c.if-number-eq-ANY_CHILD.true

pub returns-in_default : goal.returns-in_default
returns-in_default c g k p whole st paired target =
    none_told g c.args.kernel.now k st whole p c.args.who paired c.args.number c.if-number-eq-ANY_CHILD.false
    (sym c.in_default.is ∙ target)

pub returns : goal.returns
returns c g k p whole st paired target =
    c.is_answered-2.ensures ∙ ap is_answered c.look-2.ensures.found
    ∙ one_told g c.args.kernel.now k st whole p c.args.who paired c.args.number c.if-number-eq-ANY_CHILD.false
    c.in-Some.child (sym c.in-Some.is ∙ target)

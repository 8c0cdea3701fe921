use Rattle.std.proofs.Common.{sym, ap, ◌∙◌}
use Rattle.std.specs.Prelude.{not}
use Rattle.plain_tables.specs.Tables.{NOBODY}
use Rattle.plain_tables.specs.Waits.{wait_for, is_answered}
use Rattle.plain_machine.specs.Rows.Wait.{child_of_number}
use Rattle.host_tables.specs.Systems.{given_of}
use Rattle.wrap_calls.proofs.Orphans.{stranger_told, any_orphan, any_number, one_number, same_pid}
use Rattle.wrap_calls.proofs.strangers.is_told.Goals as goal

pub returns-then-p-ne-NOBODY : goal.returns-then-p-ne-NOBODY
returns-then-p-ne-NOBODY c k next_id w =
    let s = c.args.system.now in
    stranger_told (given_of s) s.kernel k w.stands.tables w.stands.kernel c.args.p c.requires
    c.if-p-ne-NOBODY.true (child_of_number c.args.number)

pub returns-then-number-eq-ANY_CHILD : goal.returns-then-number-eq-ANY_CHILD
returns-then-number-eq-ANY_CHILD c k next_id w =
    ap not (c.has_life.ensures k next_id w) ∙ any_orphan k w.stands.kernel
    ∙ (λ i. is_answered (wait_for k.processes (sym (same_pid c.args.p NOBODY c.if-p-ne-NOBODY.false) i)
    (sym (any_number c.args.number c.if-number-eq-ANY_CHILD.true) i)))

pub returns : goal.returns
returns c k next_id w =
    c.is_orphan.ensures k next_id w
    ∙ (λ i. is_answered (wait_for k.processes (sym (same_pid c.args.p NOBODY c.if-p-ne-NOBODY.false) i)
    (sym (one_number c.args.number c.if-number-eq-ANY_CHILD.false) i)))

use Rattle.std.proofs.Common.{sym, ◌∙◌}
use Rattle.fd_tables.specs.Slots.{slot}
use Rattle.host_files.proofs.OfHostDescriptors.HeldChanges.{none_held}
use Rattle.host_kernel.proofs.WriteRows.{ready_bad, ready_denied, ready_waits, ready_passes}
use Rattle.host_kernel.proofs.writing.is_write_ready.Goals as goal

pub returns-in_default : goal.returns-in_default
returns-in_default c g k p whole st paired =
    let real = c.args.kernel.now in
    ready_bad g real k st p c.args.who paired c.args.fd c.args.count c.args.front.now
    (none_held real.book (slot c.args.who c.args.fd) c.whole.ensures
    (sym c.held_at.ensures ∙ c.in_default.is))

pub returns-then-not-may_write : goal.returns-then-not-may_write
returns-then-not-may_write c g k p whole st paired =
    ready_denied g c.args.kernel.now k st p c.args.who paired c.args.fd c.args.count c.args.front.now
    c.in-Some.held (sym c.held_at.ensures ∙ c.in-Some.is) (sym c.if-not-may_write.true ∙ c.may_write.ensures)

pub returns-then-is_writable : goal.returns-then-is_writable
returns-then-is_writable c g k p whole st paired =
    ready_passes g c.args.kernel.now k st p c.args.who paired c.args.fd c.args.count c.args.front.now
    c.in-Some.held (sym c.held_at.ensures ∙ c.in-Some.is) (sym c.if-not-may_write.false ∙ c.may_write.ensures)
    (sym c.if-is_writable.true ∙ c.is_writable.ensures.ready g k whole st)

pub returns : goal.returns
returns c g k p whole st paired =
    c.is_nonblocking.ensures
    ∙ ready_waits g c.args.kernel.now k st p c.args.who paired c.args.fd c.args.count c.args.front.now
    c.in-Some.held (sym c.held_at.ensures ∙ c.in-Some.is) (sym c.if-not-may_write.false ∙ c.may_write.ensures)
    (sym c.if-is_writable.false ∙ c.is_writable.ensures.ready g k whole st)

use Rattle.std.proofs.Common.{sym, ◌∙◌}
use Rattle.fd_tables.specs.Slots.{slot}
use Rattle.host_files.proofs.OfHostDescriptors.HeldChanges.{none_held}
use Rattle.host_kernel.proofs.ReadRows.{ready_bad, ready_denied, ready_waits, ready_passes}
use Rattle.host_kernel.proofs.reading.is_read_ready.Goals as goal

pub returns-in_default : goal.returns-in_default
returns-in_default c g k p whole st paired =
    let real = c.args.kernel.now in
    ready_bad g real k st p c.args.who paired c.args.fd c.args.count
    (none_held real.book (slot c.args.who c.args.fd) c.whole.ensures
    (sym c.held_at.ensures ∙ c.in_default.is))

pub returns-then-not-may_read : goal.returns-then-not-may_read
returns-then-not-may_read c g k p whole st paired =
    ready_denied g c.args.kernel.now k st p c.args.who paired c.args.fd c.args.count c.in-Some.held
    (sym c.held_at.ensures ∙ c.in-Some.is) (sym c.if-not-may_read.true ∙ c.may_read.ensures)

pub returns-then-is_readable : goal.returns-then-is_readable
returns-then-is_readable c g k p whole st paired =
    ready_passes g c.args.kernel.now k st p c.args.who paired c.args.fd c.args.count c.in-Some.held
    (sym c.held_at.ensures ∙ c.in-Some.is) (sym c.if-not-may_read.false ∙ c.may_read.ensures) c.limited.result
    c.limited.ensures (sym c.if-is_readable.true ∙ c.is_readable.ensures g k whole st)

pub returns : goal.returns
returns c g k p whole st paired =
    c.is_nonblocking.ensures
    ∙ ready_waits g c.args.kernel.now k st p c.args.who paired c.args.fd c.args.count c.in-Some.held
    (sym c.held_at.ensures ∙ c.in-Some.is) (sym c.if-not-may_read.false ∙ c.may_read.ensures) c.limited.result
    c.limited.ensures (sym c.if-is_readable.false ∙ c.is_readable.ensures g k whole st)

use Rattle.std.proofs.Common.{sym, ◌∙◌}
use Rattle.fd_tables.specs.Slots.{slot}
use Rattle.host_files.proofs.OfHostDescriptors.HeldChanges.{none_held}
use Rattle.host_kernel.proofs.ReadRows.{read_bad, read_denied, read_waits, read_passes}
use Rattle.host_kernel.proofs.reading.read.Goals as goal

pub returns-in_default : goal.returns-in_default
returns-in_default c g k p whole st paired =
    let real = c.args.kernel.now in
    read_bad g real k st p c.args.who paired c.args.fd c.args.count
    (none_held real.book (slot c.args.who c.args.fd) c.whole.ensures
    (sym c.held_at.ensures ∙ c.in_default.is))
    c.args.transfer.now

pub returns-then-not-may_read : goal.returns-then-not-may_read
returns-then-not-may_read c g k p whole st paired =
    read_denied g c.args.kernel.now k st p c.args.who paired c.args.fd c.args.count c.in-Some.held
    (sym c.held_at.ensures ∙ c.in-Some.is) (sym c.if-not-may_read.true ∙ c.may_read.ensures)
    c.args.transfer.now

pub returns-then-not-is_readable : goal.returns-then-not-is_readable
returns-then-not-is_readable c g k p whole st paired =
    read_waits g c.args.kernel.now k st p c.args.who paired c.args.fd c.args.count c.in-Some.held
    (sym c.held_at.ensures ∙ c.in-Some.is) (sym c.if-not-may_read.false ∙ c.may_read.ensures)
    c.limited-few.result
    c.limited-few.ensures (sym c.if-not-is_readable.true ∙ c.is_readable.ensures g k whole st)
    c.args.transfer.now
    c.not_ready.result c.not_ready.ensures

pub returns : goal.returns
returns c g k p whole st paired =
    read_passes g c.args.kernel.now k st p c.args.who paired c.args.fd c.args.count c.in-Some.held
    (sym c.held_at.ensures ∙ c.in-Some.is) (sym c.if-not-may_read.false ∙ c.may_read.ensures)
    c.limited-few.result
    c.limited-few.ensures
    (sym c.if-not-is_readable.false ∙ c.is_readable.ensures g k whole st) c.read_object.new.kernel
    c.args.transfer.now c.read_object.new.transfer c.read_object.result (c.read_object.ensures g k st)

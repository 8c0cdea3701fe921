use Rattle.std.proofs.Common.{sym, ap, ◌∙◌, List}
use Rattle.std.proofs.lemmas.Result.{IfOk-weaker}
use Rattle.fd_tables.specs.Slots.{slot}
use Rattle.views.specs.Numbers.{Byte}
use Rattle.plain_machine.specs.Rows.Write.{is_writable}
use Rattle.host_files.specs.OfHostDescriptors.Held.{seen_held}
use Rattle.host_files.proofs.OfHostDescriptors.HeldChanges.{none_held}
use Rattle.host_kernel.proofs.WriteRows.{write_bad, write_denied, write_waits, write_passes}
use Rattle.host_kernel.proofs.writing.write.Goals as goal

pub returns-in_default-clause-ok : goal.returns-in_default-clause-ok
returns-in_default-clause-ok c g k p whole st paired t thread =
    let real = c.args.kernel.now in
    write_bad g real k st p c.args.who paired c.args.fd c.args.count c.args.transfer.now
    (none_held real.book (slot c.args.who c.args.fd) c.whole.ensures
    (sym c.held_at.ensures ∙ c.in_default.is)) t

pub returns-then-not-may_write-clause-ok : goal.returns-then-not-may_write-clause-ok
returns-then-not-may_write-clause-ok c g k p whole st paired t thread =
    write_denied g c.args.kernel.now k st p c.args.who paired c.args.fd c.args.count c.args.transfer.now
    c.in-Some.held (sym c.held_at.ensures ∙ c.in-Some.is)
    (sym c.if-not-may_write.true ∙ c.may_write.ensures) t

pub returns-then-not-is_writable-clause-ok : goal.returns-then-not-is_writable-clause-ok
returns-then-not-is_writable-clause-ok c g k p whole st paired t thread =
    let real = c.args.kernel.now in
    let h = c.in-Some.held in
    write_waits g real k st p c.args.who paired c.args.fd c.args.count c.args.transfer.now h
    (sym c.held_at.ensures ∙ c.in-Some.is) (sym c.if-not-may_write.false ∙ c.may_write.ensures)
    (sym c.if-not-is_writable.true ∙ c.is_writable.ensures.ready g k whole st
    ∙ ap (λ (x : List Byte). is_writable k c.args.count x (seen_held g real h).description.object)
    c.as_slice.ensures.value) t c.not_ready.result c.not_ready.ensures

pub returns-clause-ok : goal.returns-clause-ok
returns-clause-ok c =
    let real = c.args.kernel.now in
    let h = c.in-Some.held in
    IfOk-weaker c.write_object.result _ _ (λ a serves g k p whole st paired t thread.
    write_passes g real k st p c.args.who paired c.args.fd c.args.count c.args.transfer.now h
    (sym c.held_at.ensures ∙ c.in-Some.is) (sym c.if-not-may_write.false ∙ c.may_write.ensures)
    (sym c.if-not-is_writable.false ∙ c.is_writable.ensures.ready g k whole st
    ∙ ap (λ (x : List Byte). is_writable k c.args.count x (seen_held g real h).description.object)
    c.as_slice.ensures.value) t c.write_object.new.kernel a (serves g k p whole st paired t thread))
    c.write_object.ensures.ok

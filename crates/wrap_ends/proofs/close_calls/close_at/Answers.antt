use Rattle.std.proofs.Common.{None, refl, sym}
use Rattle.std.specs.FinMap as map
use Rattle.fd_tables.specs.Slots.{slot}
use Rattle.plain_machine.proofs.WholeClosing.{whole_close}
use Rattle.host_descriptors.proofs.CloseCall.{lost_none}
use Rattle.host_descriptors.proofs.ObjectsAt.{told_ok, told_err}
use Rattle.wrap_ends.proofs.Rows.{closed_placed}
use Rattle.wrap_ends.proofs.close_calls.close_at.Goals as goal

pub returns-in_default-clause-closed : goal.returns-in_default-clause-closed
returns-in_default-clause-closed c k next_id p w paired =
    let book = c.args.system.now.kernel.book in
    let at = slot c.args.who c.args.fd in
    closed_placed c.args.system.now next_id k w p c.args.who paired c.args.fd c.whole.ensures None
    (whole_close k p c.args.fd w.stands.kernel) c.close.new.self c.in_default.ensures.closed None
    (sym (lost_none book at (told_err (map.get book.descriptors at) _ _ _ c.in_default.ensures.lost)))
    c.object_at-object.result c.object_at-object.ensures _ tt tt refl

pub returns-clause-closed : goal.returns-clause-closed
returns-clause-closed c k next_id p w paired =
    let book = c.args.system.now.kernel.book in
    let at = slot c.args.who c.args.fd in
    closed_placed c.args.system.now next_id k w p c.args.who paired c.args.fd c.whole.ensures None
    (whole_close k p c.args.fd w.stands.kernel) c.close.new.self c.in-Ok.ensures.closed c.in-Ok.lost
    (told_ok (map.get book.descriptors at) _ _ _ c.in-Ok.ensures.lost)
    c.object_at-object.result c.object_at-object.ensures c.release.new.system c.release.ensures.goes
    c.release.ensures.forgets c.release.ensures.stays

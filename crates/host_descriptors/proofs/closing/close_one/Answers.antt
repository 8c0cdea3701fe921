use Rattle.std.proofs.Common.{sym, None}
use Rattle.std.specs.FinMap as map
use Rattle.fd_tables.specs.Slots.{slot}
use Rattle.host_descriptors.proofs.ObjectsAt.{told_ok, told_err}
use Rattle.host_descriptors.proofs.CloseCall.{closed_nothing, lost_none}
use Rattle.host_descriptors.proofs.FinishedCloses.{finished, told_close}
use Rattle.host_descriptors.proofs.closing.close_one.Goals as goal

pub returns-in-Ok-clause-closed : goal.returns-in-Ok-clause-closed
returns-in-Ok-clause-closed c g k p whole st paired =
    let at = slot c.args.who c.args.fd in
    finished g c.args.kernel.now k whole st p c.args.who paired c.args.fd c.whole.ensures None
    c.close.new.self c.in-Ok.ensures.closed
    c.in-Ok.lost (told_ok (map.get c.args.kernel.now.book.descriptors at) _ _ _ c.in-Ok.ensures.lost)
    c.object_at-object.result c.object_at-object.ensures c.finish.new.kernel c.finish.result c.finish.ensures.told
    c.finish.ensures.goes c.finish.ensures.stays

pub returns-in-Ok-clause-told : goal.returns-in-Ok-clause-told
returns-in-Ok-clause-told c =
    let at = slot c.args.who c.args.fd in
    told_close c.args.kernel.now.book at c.whole.ensures
    c.in-Ok.lost (told_ok (map.get c.args.kernel.now.book.descriptors at) _ _ _ c.in-Ok.ensures.lost)
    c.object_at-object.result c.object_at-object.ensures c.finish.result c.finish.ensures.told

pub returns-in-Err-clause-closed : goal.returns-in-Err-clause-closed
returns-in-Err-clause-closed c g k p whole st paired =
    let at = slot c.args.who c.args.fd in
    closed_nothing g c.args.kernel.now k st p c.args.who paired c.args.fd
    (told_err (map.get c.args.kernel.now.book.descriptors at) _ _ _ c.in-Err.ensures.lost)
    c.close.new.self c.in-Err.ensures.closed

pub returns-in-Err-clause-told : goal.returns-in-Err-clause-told
returns-in-Err-clause-told c =
    let at = slot c.args.who c.args.fd in
    record {
      desc = sym (lost_none c.args.kernel.now.book at
          (told_err (map.get c.args.kernel.now.book.descriptors at) _ _ _ c.in-Err.ensures.lost));
      object = tt;
    }

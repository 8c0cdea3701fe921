use Rattle.std.proofs.Common.{refl}
use Rattle.plain_machine.specs.Rows.Sockets.{own_name, getsockname_row}
use Rattle.host_streams.specs.HandedOn.{seen_held}
use Rattle.host_streams.specs.OfHostTables.Systems.{given_of}
use Rattle.wrap_names.proofs.OwnNames.{getsockname_fails, getsockname_is}
use Rattle.wrap_names.proofs.Unchanged.{name_told, name_refused}
use Rattle.wrap_names.proofs.serving.getsockname.Goals as goal

pub returns-in-Err : goal.returns-in-Err
returns-in-Err c k next_id p w paired =
    let before = c.args.transfer.now in
    let e = c.in-Err.error in
    name_refused k before before (getsockname_row k p c.args.fd before) e refl
    (getsockname_fails k p c.args.fd before e.0 (c.in-Err.ensures.told k next_id p w paired))

pub returns-in-Ok : goal.returns-in-Ok
returns-in-Ok c k next_id p w paired =
    let s = c.args.system.now in
    let before = c.args.transfer.now in
    let h = seen_held (given_of s) s.kernel c.in-Ok.held in
    name_told k before c.put_own_name.new.transfer (getsockname_row k p c.args.fd before)
    (own_name k h.description.object) (c.put_own_name.ensures k next_id w)
    (getsockname_is k p c.args.fd before h (c.in-Ok.ensures.told k next_id p w paired))

use Rattle.std.proofs.Common.{refl, sym, subst}
use Rattle.plain_machine.specs.Rows.Sockets.{getpeername_row}
use Rattle.host_streams.specs.HandedOn.{seen_held}
use Rattle.host_streams.specs.OfHostTables.Systems.{given_of}
use Rattle.wrap_names.specs.Wrapping.{Answers}
use Rattle.wrap_names.proofs.OwnNames.{getpeername_fails, getpeername_is}
use Rattle.wrap_names.proofs.Unchanged.{name_refused}
use Rattle.wrap_names.proofs.serving.getpeername.Goals as goal

pub returns-in-Err : goal.returns-in-Err
returns-in-Err c k next_id p w paired =
    let before = c.args.transfer.now in
    let e = c.in-Err.error in
    name_refused k before before (getpeername_row k p c.args.fd before) e refl
    (getpeername_fails k p c.args.fd before e.0 (c.in-Err.ensures.told k next_id p w paired))

pub returns-in-Ok : goal.returns-in-Ok
returns-in-Ok c k next_id p w paired =
    let s = c.args.system.now in
    let before = c.args.transfer.now in
    let h = seen_held (given_of s) s.kernel c.in-Ok.held in
    subst (Answers k k before c.put_peer_name.new.transfer c.put_peer_name.result)
    (sym (getpeername_is k p c.args.fd before h (c.in-Ok.ensures.told k next_id p w paired)))
    (c.put_peer_name.ensures k next_id c.in-Ok.held.desc w)

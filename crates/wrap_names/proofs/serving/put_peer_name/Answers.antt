use Rattle.std.proofs.Common.{◌-◌, refl, sym, ap, ◌∙◌}
use Rattle.std.specs.FinMap as map
use Rattle.sys_abi.specs.declared.errors.TheConstants.{ENOTCONN}
use Rattle.plain_machine.specs.Addresses.{pair_bytes, cut_to}
use Rattle.plain_machine.specs.SocketWords.{shown_as, end_name}
use Rattle.host_streams.specs.OfHostTables.Descriptions.{seen_object}
use Rattle.wrap_names.specs.Calls.{peer_named}
use Rattle.wrap_names.specs.Ends.{end_in}
use Rattle.wrap_names.proofs.Ends.{end_name_is}
use Rattle.wrap_names.proofs.OwnNames.{peer_stream, peer_end, no_peer}
use Rattle.wrap_names.proofs.Unchanged.{name_told, name_refused}
use Rattle.wrap_names.proofs.serving.put_peer_name.Goals as goal

pub returns-in-Stream : goal.returns-in-Stream
returns-in-Stream c k next_id id w =
    let s = c.args.system.now in
    let before = c.args.transfer.now in
    let conn = c.in-Stream.conn in
    let side = c.in-Stream.side in
    let seen = seen_object s.conns.names s.kernel.datagrams id in
    name_told k before c.put_name.new.transfer (peer_named k before (seen c.args.object))
    (end_name (map.get k.channels conn) (1 - side))
    (c.put_name.ensures
    ∙ ap (λ a. cut_to before (shown_as pair_bytes a))
    (c.end_address-address.ensures ∙ ap (end_in s.conns.conns conn) c.across.ensures)
    ∙ ap (cut_to before) (sym (end_name_is s next_id k w conn (1 - side))))
    (ap (λ o. peer_named k before (seen o)) c.in-Stream.is
    ∙ peer_stream k s.conns.names s.kernel.datagrams id before conn side)

pub returns-in-Datagram : goal.returns-in-Datagram
returns-in-Datagram c k next_id id w =
    let s = c.args.system.now in
    let before = c.args.transfer.now in
    let seen = seen_object s.conns.names s.kernel.datagrams id in
    name_told k before c.put_name-in-Datagram.new.transfer (peer_named k before (seen c.args.object))
    pair_bytes c.put_name-in-Datagram.ensures
    (peer_end k s.conns.names s.kernel.datagrams id before c.args.object _ _ c.in-Datagram.is)

pub returns-in_default : goal.returns-in_default
returns-in_default c k next_id id w =
    let s = c.args.system.now in
    let before = c.args.transfer.now in
    let seen = seen_object s.conns.names s.kernel.datagrams id in
    name_refused k before before (peer_named k before (seen c.args.object)) (record { 0 = ENOTCONN }) refl
    (no_peer k s.conns.names s.kernel.datagrams id before c.args.object c.in_default.not-Datagram
    c.in_default.not-Stream)

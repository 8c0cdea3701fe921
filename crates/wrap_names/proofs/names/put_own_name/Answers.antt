use Rattle.std.proofs.Common.{sym, ap, ◌∙◌}
use Rattle.plain_machine.specs.Addresses.{pair_bytes, unbound_bytes, cut_to}
use Rattle.plain_machine.specs.Rows.Sockets.{own_name}
use Rattle.plain_machine.specs.SocketWords.{shown_as}
use Rattle.host_streams.specs.OfHostTables.Descriptions.{seen_object}
use Rattle.wrap_names.proofs.Ends.{end_name_is}
use Rattle.wrap_names.proofs.OwnNames.{own_other}
use Rattle.wrap_names.proofs.names.put_own_name.Goals as goal

pub returns-in-Stream : goal.returns-in-Stream
returns-in-Stream c k next_id w =
    let s = c.args.system.now in
    let before = c.args.transfer.now in
    let conn = c.in-Stream.conn in
    let side = c.in-Stream.side in
    let seen = seen_object s.conns.names s.kernel.datagrams c.args.desc in
    c.put_name.ensures
    ∙ ap (λ a. cut_to before (shown_as pair_bytes a)) c.end_address-address.ensures
    ∙ ap (cut_to before) (sym (end_name_is s next_id k w conn side))
    ∙ ap (λ o. cut_to before (own_name k (seen o))) (sym c.in-Stream.is)

pub returns-in-Datagram : goal.returns-in-Datagram
returns-in-Datagram c k next_id w =
    let s = c.args.system.now in
    let before = c.args.transfer.now in
    let seen = seen_object s.conns.names s.kernel.datagrams c.args.desc in
    c.put_name-in-Datagram.ensures ∙ ap (λ o. cut_to before (own_name k (seen o))) (sym c.in-Datagram.is)

pub returns-in_default : goal.returns-in_default
returns-in_default c k next_id w =
    let s = c.args.system.now in
    let before = c.args.transfer.now in
    c.put_name-in_default.ensures
    ∙ ap (λ a. cut_to before (shown_as unbound_bytes a)) (c.bound_at-address.ensures s.kernel.datagrams)
    ∙ ap (cut_to before) (sym (own_other k s.conns.names s.kernel.datagrams c.args.desc c.args.object
    c.in_default.not-Datagram c.in_default.not-Stream))

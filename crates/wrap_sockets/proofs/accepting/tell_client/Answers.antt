use Rattle.std.proofs.Common.{◌≡◌, [], ◌∷◌, sym, ap, ◌∙◌, subst}
use Rattle.std.specs.FinMap as map
use Rattle.fd_tables.specs.Slots as slots
use Rattle.plain_machine.specs.Addresses.{cut_to}
use Rattle.plain_machine.specs.Kernel.{Held}
use Rattle.plain_machine.specs.Rows.Connections.{client_name}
use Rattle.plain_machine.specs.SocketWords.{shown_as, end_name}
use Rattle.host_descriptors.proofs.HeldChanges.{there_of, none_held}
use Rattle.host_descriptors.proofs.HeldTold.{held_told}
use Rattle.host_descriptors.specs.Held.{seen_held}
use Rattle.host_tables.proofs.LookUps.{held_none}
use Rattle.host_tables.specs.Serves.{bytes_or}
use Rattle.host_tables.specs.Systems.{given_of}
use Rattle.wrap_names.proofs.Ends.{end_name_is}
use Rattle.wrap_sockets.proofs.ClientTold.{never_held, same_held, stream_seen, stream_is, client_told}
use Rattle.wrap_sockets.proofs.accepting.tell_client.Goals as goal

pub returns-in_default : goal.returns-in_default
returns-in_default c k next_id p h conn w paired held object =
    let s = c.args.system.now in
    never_held _ h
    (held_none (given_of s) s.kernel k w.stands.tables p c.args.who paired c.args.fd
    (none_held s.kernel.book (slots.slot c.args.who c.args.fd) c.whole.ensures
    (sym c.held_at.ensures ∙ c.in_default.is))) held

pub returns-in_default-object : goal.returns-in_default-object
returns-in_default-object c k next_id p h conn w paired held object =
    let s = c.args.system.now in
    let found = c.in-Some.held in
    let told = held_told (given_of s) s.kernel k w.stands.tables p c.args.who paired c.args.fd
    (there_of s.kernel c.args.who c.args.fd found (sym c.held_at.ensures ∙ c.in-Some.is)) in
    let same = same_held _ (seen_held (given_of s) s.kernel found) h told held in
    absurd (c.in_default-object.not-Stream conn 1
    (stream_seen s.conns.names s.kernel.datagrams found.desc found.description.object conn 1
    (ap (λ (x : Held). x.description.object) same ∙ object)))

pub returns : goal.returns
returns c k next_id p h conn w paired held object =
    let s = c.args.system.now in
    let found = c.in-Some.held in
    let told = held_told (given_of s) s.kernel k w.stands.tables p c.args.who paired c.args.fd
    (there_of s.kernel c.args.who c.args.fd found (sym c.held_at.ensures ∙ c.in-Some.is)) in
    let same = same_held _ (seen_held (given_of s) s.kernel found) h told held in
    let seen = stream_seen s.conns.names s.kernel.datagrams found.desc found.description.object conn 1
    (ap (λ (x : Held). x.description.object) same ∙ object) in
    let conn_is : c.in-Stream.conn ≡ conn =
    stream_is c.in-Stream.conn conn c.in-Stream.side 1 (sym c.in-Stream.is ∙ seen) in
    let before = c.args.transfer.now in
    c.put_name.ensures
    ∙ ap (λ a. cut_to before (shown_as (1 ∷ 0 ∷ []) a)) c.end_address-client.ensures
    ∙ ap (cut_to before) (sym (end_name_is s next_id k w c.in-Stream.conn 0))
    ∙ subst (λ x. cut_to before (end_name (map.get k.channels x) 0)
    ≡ bytes_or before (client_name k c.args.address before conn)) (sym conn_is)
    (sym (client_told k c.args.address before conn c.if-address-eq0.false))

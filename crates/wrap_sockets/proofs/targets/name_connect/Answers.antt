use Rattle.std.proofs.Common.{sym, ap, ◌∙◌, subst}
use Rattle.plain_machine.specs.Kernel.{held}
use Rattle.host_tables.specs.Systems.{given_of}
use Rattle.wrap_names.proofs.Named.{pipe_is}
use Rattle.wrap_sockets.specs.Naming.{IsNamedConnect, real_target, entry_of}
use Rattle.wrap_sockets.proofs.ConnectTests.{IsOwn, own_told}
use Rattle.wrap_sockets.proofs.ConnectNames.{conn_is, names_nothing, names_socket}
use Rattle.wrap_sockets.proofs.targets.name_connect.Goals as goal

pub returns-in_default : goal.returns-in_default
returns-in_default c k next_id w paired =
    let s = c.args.system.now in
    let p = c.args.p in
    names_nothing s k p c.args.fd c.args.length c.args.bytes.now c.leads_to_pipe-of_pipe.result
    (c.leads_to_pipe-of_pipe.ensures ∙ pipe_is s next_id k w p c.args.who paired c.whole.ensures c.args.fd)
    c.next_conn-channel.result (c.next_conn-channel.ensures ∙ conn_is s next_id k w p)
    (subst (IsOwn (held k p c.args.fd)) (sym c.own_socket.ensures ∙ c.in_default.is)
    (own_told (given_of s) s.kernel k w.stands.tables p c.args.who paired c.args.fd c.whole.ensures))

pub returns : goal.returns
returns c k next_id w paired =
    let s = c.args.system.now in
    let p = c.args.p in
    let of_pipe = c.leads_to_pipe-of_pipe.result in
    let channel = c.next_conn-channel.result in
    let bound = c.bound_or-bound.result in
    let to_is = sym (c.real_target.ensures ∙ ap (real_target s.ids.addresses) c.target_of-target.ensures) in
    let listed_is = sym (c.entry_of.ensures
    ∙ ap (λ target. entry_of channel bound target c.in-Some.socket.desc) c.target_of-target.ensures) in
    subst (IsNamedConnect (given_of s) k p c.args.fd c.args.length c.args.bytes.now)
    (λ i. record {
      of_pipe = of_pipe;
      channel = channel;
      to = to_is i;
      port_free = sym c.is_ok.ensures.value i;
      listed = listed_is i;
    })
    (names_socket s k p c.args.fd c.args.length c.args.bytes.now of_pipe
    (c.leads_to_pipe-of_pipe.ensures ∙ pipe_is s next_id k w p c.args.who paired c.whole.ensures c.args.fd)
    channel
    (c.next_conn-channel.ensures ∙ conn_is s next_id k w p) c.in-Some.socket
    (subst (IsOwn (held k p c.args.fd)) (sym c.own_socket.ensures ∙ c.in-Some.is)
    (own_told (given_of s) s.kernel k w.stands.tables p c.args.who paired c.args.fd c.whole.ensures))
    bound (c.bound_or-bound.ensures k next_id w))

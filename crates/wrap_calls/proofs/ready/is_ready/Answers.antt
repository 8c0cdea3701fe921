use Rattle.std.proofs.Common.{sym, ap, ◌∙◌}
use Rattle.std.specs.FinMap as map
use Rattle.plain_machine.specs.Serve.{is_ready}
use Rattle.host_tables.specs.Systems.{given_of}
use Rattle.plain_tables.specs.Tables.{Makers}
use Rattle.wrap_passing.specs.OfWrapNames.Naming.{desc_in}
use Rattle.wrap_passing.proofs.OfWrapNames.Named.{neighbour_is, pipe_is}
use Rattle.wrap_calls.proofs.PairLooks.{found_pair, no_pair}
use Rattle.wrap_calls.proofs.ReadyStrangers.{others_ready}
use Rattle.wrap_calls.proofs.ready.is_ready.Goals as goal

pub is_stranger_ready-requires : goal.is_stranger_ready-requires
is_stranger_ready-requires c =
    no_pair (map.get c.args.system.now.ids.pids c.args.p.0) _ _ (sym c.real_pid.ensures ∙ c.in_default.is)

pub returns-in_default : goal.returns-in_default
returns-in_default c k next_id w = c.is_stranger_ready.ensures k next_id w c.args.t.0 c.args.front.now

pub returns-in-Read : goal.returns-in-Read
unfolding is_ready
returns-in-Read c k next_id w =
    let s = c.args.system.now in
    c.is_read_ready.ensures (given_of s) k c.args.p w.stands.kernel w.stands.tables
    (found_pair (map.get s.ids.pids c.args.p.0) _ c.in-Ok.who (sym c.real_pid.ensures ∙ c.in-Ok.is))
    ∙ ap (λ q. is_ready k c.args.p c.args.t.0 q c.args.front.now) (sym c.in-Read.is)

pub returns-in-Write : goal.returns-in-Write
unfolding is_ready
returns-in-Write c k next_id w =
    let s = c.args.system.now in
    c.is_write_ready.ensures (given_of s) k c.args.p w.stands.kernel w.stands.tables
    (found_pair (map.get s.ids.pids c.args.p.0) _ c.in-Ok.who (sym c.real_pid.ensures ∙ c.in-Ok.is))
    ∙ ap (λ q. is_ready k c.args.p c.args.t.0 q c.args.front.now) (sym c.in-Write.is)

pub returns-in-Accept : goal.returns-in-Accept
unfolding is_ready
returns-in-Accept c k next_id w =
    let s = c.args.system.now in
    let paired = found_pair (map.get s.ids.pids c.args.p.0) _ c.in-Ok.who (sym c.real_pid.ensures
    ∙ c.in-Ok.is) in
    c.is_accept_ready.ensures (given_of s) k c.args.p w.stands.kernel w.stands.tables paired (
      c.leads_to_pipe.ensures
          ∙ pipe_is s next_id k w c.args.p c.in-Ok.who paired c.whole.ensures c.in-Accept.fd,
      c.next_desc-id.ensures ∙ ap (λ (makers : Makers). desc_in makers c.args.p) (sym w.stands.exact.makers),
    )
    ∙ ap (λ q. is_ready k c.args.p c.args.t.0 q c.args.front.now) (sym c.in-Accept.is)

pub is_connect_ready-requires : goal.is_connect_ready-requires
is_connect_ready-requires c =
    found_pair (map.get c.args.system.now.ids.pids c.args.p.0) _ c.in-Ok.who (sym c.real_pid.ensures
    ∙ c.in-Ok.is)

pub returns-in-Connect : goal.returns-in-Connect
unfolding is_ready
returns-in-Connect c k next_id w =
    c.is_connect_ready.ensures k next_id w
    ∙ ap (λ q. is_ready k c.args.p c.args.t.0 q c.args.front.now) (sym c.in-Connect.is)

pub returns-in-Wait4 : goal.returns-in-Wait4
unfolding is_ready
returns-in-Wait4 c k next_id w =
    let s = c.args.system.now in
    let paired = found_pair (map.get s.ids.pids c.args.p.0) _ c.in-Ok.who (sym c.real_pid.ensures
    ∙ c.in-Ok.is) in
    c.is_wait4_ready.ensures (given_of s) k c.args.p w.stands.kernel w.stands.tables paired
    (c.named-target.ensures ∙ neighbour_is s next_id k w c.args.p c.in-Wait4.pid)
    ∙ ap (λ q. is_ready k c.args.p c.args.t.0 q c.args.front.now) (sym c.in-Wait4.is)

pub returns-in_default-request : goal.returns-in_default-request
returns-in_default-request c k next_id w =
    others_ready k c.args.p c.args.t.0 c.args.front.now c.args.request.now c.in_default-request.not-Read
    c.in_default-request.not-Write c.in_default-request.not-Accept c.in_default-request.not-Connect
    c.in_default-request.not-Wait4

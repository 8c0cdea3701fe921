use Rattle.std.proofs.Common.{◌≡◌, sym, ap, ◌∙◌}
use Rattle.plain_machine.specs.Kernel.{held}
use Rattle.host_tables.specs.Requests.{ConnectNames, target_of, has_port}
use Rattle.host_tables.specs.Systems.{given_of}
use Rattle.wrap_passing.proofs.OfWrapNames.Named.{pipe_is}
use Rattle.wrap_calls.proofs.ConnectNames.{if_held, conn_is}
use Rattle.wrap_calls.proofs.connecting.is_connect_ready.Goals as goal

pub returns : goal.returns
returns c k next_id w =
    let s = c.args.system.now in
    let p = c.args.p in
    c.is_connect_ready.ensures (given_of s) k p w.stands.kernel w.stands.tables c.requires c.args.length
    c.args.bytes.now (
      c.leads_to_pipe.ensures ∙ pipe_is s next_id k w p c.args.who c.requires c.whole.ensures c.args.fd,
      (
        c.next_conn.ensures ∙ conn_is s next_id k w p,
        if_held (λ own. own ≡ c.socket_address-own.result)
            (ConnectNames (given_of s) k c.args.length c.args.bytes.now c.target.result c.has_port.result)
            (λ own same. record {
              to_is = c.target.ensures
                  ∙ ap (λ a. target_of s.ids.addresses a c.args.length c.args.bytes.now) (sym same);
              port_is = c.has_port.ensures k next_id w ∙ ap (has_port k) (sym same);
            }) (held k p c.args.fd) (c.socket_address-own.ensures k next_id p w c.requires),
      ),
    )

use Rattle.std.proofs.Common.{refl, ap, subst, ◌∙◌}
use Rattle.std.specs.Prelude.{Some}
use Rattle.std.specs.FinMap as map
use Rattle.sys_abi.specs.declared.identity.ConnId.{ConnId}
use Rattle.conn_table.specs.declared.table.ConnTable.{ConnTable}
use Rattle.conn_table.specs.declared.conn.Conn.{Conn}
use Rattle.plain_tables.specs.declared.channel.Channel.{Channel}
use Rattle.sys_abi.proofs.OrderLaws.{conn_total, conn_exact}
use Rattle.rebuild_tables.specs.ConnTables.{conn_of}
use Rattle.rebuild_tables.proofs.Copies.{IsCopied, none_copied, is_new, copied_some, all_copied}
use Rattle.rebuild_tables.proofs.WholeCopies.{always}
use Rattle.rebuild_tables.proofs.conns.add_conns.Goals as goal

pub loop-id-init : goal.loop-id-init
loop-id-init c = record {
  copied =
      none_copied conn_total conn_exact (λ id channel. Some (conn_of id channel)) c.args.channels.now
      c.into_iter-id-iterator.result c.args.t.now.conns
      (c.into_iter-id-iterator.ensures.into_iter_gives ∙ c.iter-id-items.ensures) c.requires;
  names = refl;
  makers = refl;
}

pub add_conn-requires : goal.add_conn-requires
add_conn-requires c =
    let entry : ConnId × Channel = (c.in-Some.id.now, c.in-Some.channel.now) in
    ap (λ (conn : Conn). map.get c.loop-id.t.conns conn.id) c.conn_of.ensures
    ∙ is_new conn_total conn_exact (λ id channel. Some (conn_of id channel)) c.args.channels.now entry
    c.next.new.self c.loop-id.t.conns
    (subst (λ es. IsCopied (λ id channel. Some (conn_of id channel)) c.args.channels.now es c.loop-id.t.conns)
    c.in-Some.ensures.steps c.loop-id.invariant.copied)

pub loop-id-preserved : goal.loop-id-preserved
loop-id-preserved c =
    let entry : ConnId × Channel = (c.in-Some.id.now, c.in-Some.channel.now) in
    record {
      copied =
          copied_some conn_total conn_exact (λ id channel. Some (conn_of id channel)) c.args.channels.now
          entry c.next.new.self c.loop-id.t.conns
          (subst (λ es. IsCopied (λ id channel. Some (conn_of id channel)) c.args.channels.now es
          c.loop-id.t.conns) c.in-Some.ensures.steps c.loop-id.invariant.copied)
          (conn_of entry.0 entry.1) c.add_conn.new.t.conns refl
          (ap (λ (t : ConnTable). t.conns) c.in_ok-add_conn.ensures
          ∙ ap (λ (conn : Conn). map.insert c.loop-id.t.conns conn.id conn) c.conn_of.ensures);
      names = ap (λ (t : ConnTable). t.names) c.in_ok-add_conn.ensures ∙ c.loop-id.invariant.names;
      makers = ap (λ (t : ConnTable). t.makers) c.in_ok-add_conn.ensures ∙ c.loop-id.invariant.makers;
    }

pub returns-clause-conns : goal.returns-clause-conns
returns-clause-conns c id =
    all_copied conn_total conn_exact (λ id channel. Some (conn_of id channel)) c.args.channels.now
    c.loop-id.t.conns
    (subst (λ es. IsCopied (λ id channel. Some (conn_of id channel)) c.args.channels.now es c.loop-id.t.conns)
    c.in-None.ensures.steps.0 c.loop-id.invariant.copied) id
    ∙ always (conn_of id) (map.get c.args.channels.now id)

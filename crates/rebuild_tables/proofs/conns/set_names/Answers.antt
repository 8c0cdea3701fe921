use Rattle.std.proofs.Common.{refl, sym, ap, subst, ◌∙◌}
use Rattle.sys_abi.specs.declared.identity.DescId.{DescId}
use Rattle.conn_table.specs.declared.table.ConnTable.{ConnTable}
use Rattle.plain_tables.specs.declared.description.Description.{Description}
use Rattle.sys_abi.proofs.OrderLaws.{desc_total, desc_exact}
use Rattle.rebuild_tables.specs.ConnTables.{address_in}
use Rattle.rebuild_tables.proofs.Copies.{IsCopied, none_copied, copied_some, copied_none, all_copied}
use Rattle.rebuild_tables.proofs.conns.set_names.Goals as goal

pub loop-id-init : goal.loop-id-init
loop-id-init c = record {
  copied =
      none_copied desc_total desc_exact (λ id. address_in) c.args.descriptions.now
      c.into_iter-id-iterator.result c.args.t.now.names
      (c.into_iter-id-iterator.ensures.into_iter_gives ∙ c.iter-id-items.ensures) c.requires;
  conns = refl;
  makers = refl;
}

pub loop-id-preserved : goal.loop-id-preserved
loop-id-preserved c =
    let entry : DescId × Description = (c.in-Some.id.now, c.in-Some.description.now) in
    record {
      copied =
          copied_some desc_total desc_exact (λ id. address_in) c.args.descriptions.now entry c.next.new.self
          c.loop-id.t.names
          (subst (λ es. IsCopied (λ id. address_in) c.args.descriptions.now es c.loop-id.t.names)
          c.in-Some.ensures.steps c.loop-id.invariant.copied)
          c.in-Some-own_address.address c.set_name.new.self.names (sym c.in-Some-own_address.ensures)
          (ap (λ (t : ConnTable). t.names) c.in_ok-set_name-in-Some-own_address.ensures.ok);
      conns =
          ap (λ (t : ConnTable). t.conns) c.in_ok-set_name-in-Some-own_address.ensures.ok
          ∙ c.loop-id.invariant.conns;
      makers =
          ap (λ (t : ConnTable). t.makers) c.in_ok-set_name-in-Some-own_address.ensures.ok
          ∙ c.loop-id.invariant.makers;
    }

pub loop-id-preserved-in-None-own_address : goal.loop-id-preserved-in-None-own_address
loop-id-preserved-in-None-own_address c =
    let entry : DescId × Description = (c.in-Some.id.now, c.in-Some.description.now) in
    record {
      copied =
          copied_none desc_total desc_exact (λ id. address_in) c.args.descriptions.now entry c.next.new.self
          c.loop-id.t.names
          (subst (λ es. IsCopied (λ id. address_in) c.args.descriptions.now es c.loop-id.t.names)
          c.in-Some.ensures.steps c.loop-id.invariant.copied)
          (sym c.in-None-own_address.ensures);
      conns = c.loop-id.invariant.conns;
      makers = c.loop-id.invariant.makers;
    }

pub returns-clause-names : goal.returns-clause-names
returns-clause-names c =
    all_copied desc_total desc_exact (λ id. address_in) c.args.descriptions.now c.loop-id.t.names
    (subst (λ es. IsCopied (λ id. address_in) c.args.descriptions.now es c.loop-id.t.names)
    c.in-None.ensures.steps.0 c.loop-id.invariant.copied)

use Rattle.std.proofs.Common.{refl, ap, subst, ◌∙◌}
use Rattle.std.specs.Prelude.{Some}
use Rattle.sys_abi.specs.declared.identity.VPid.{VPid}
use Rattle.sys_abi.specs.declared.maker.Maker.{Maker}
use Rattle.conn_table.specs.declared.table.ConnTable.{ConnTable}
use Rattle.sys_abi.proofs.OrderLaws.{vpid_total, vpid_exact}
use Rattle.rebuild_tables.proofs.Copies.{IsCopied, none_copied, copied_some, all_copied}
use Rattle.rebuild_tables.proofs.WholeCopies.{whole}
use Rattle.rebuild_tables.proofs.conns.set_makers.Goals as goal

pub loop-p-init : goal.loop-p-init
loop-p-init c = record {
  copied =
      none_copied vpid_total vpid_exact (λ p. Some) c.args.makers.now
      c.into_iter-p-iterator.result c.args.t.now.makers
      (c.into_iter-p-iterator.ensures.into_iter_gives ∙ c.iter-p-items.ensures) c.requires;
  conns = refl;
  names = refl;
}

pub loop-p-preserved : goal.loop-p-preserved
loop-p-preserved c =
    let entry : VPid × Maker = (c.in-Some.p.now, c.in-Some.maker.now) in
    record {
      copied =
          copied_some vpid_total vpid_exact (λ p. Some) c.args.makers.now entry c.next.new.self
          c.loop-p.t.makers
          (subst (λ es. IsCopied (λ p. Some) c.args.makers.now es c.loop-p.t.makers)
          c.in-Some.ensures.steps c.loop-p.invariant.copied)
          entry.1 c.set_maker.new.self.makers refl
          (ap (λ (t : ConnTable). t.makers) c.in_ok-set_maker.ensures.ok);
      conns = ap (λ (t : ConnTable). t.conns) c.in_ok-set_maker.ensures.ok ∙ c.loop-p.invariant.conns;
      names = ap (λ (t : ConnTable). t.names) c.in_ok-set_maker.ensures.ok ∙ c.loop-p.invariant.names;
    }

pub returns-clause-makers : goal.returns-clause-makers
returns-clause-makers c =
    whole vpid_total vpid_exact c.args.makers.now c.loop-p.t.makers
    (all_copied vpid_total vpid_exact (λ p. Some) c.args.makers.now c.loop-p.t.makers
    (subst (λ es. IsCopied (λ p. Some) c.args.makers.now es c.loop-p.t.makers)
    c.in-None.ensures.steps.0 c.loop-p.invariant.copied))

use Rattle.std.proofs.Common.{refl, sym, ap, subst, ◌∙◌}
use Rattle.id_maps.proofs.OfSysAbi.OrderLaws.{address_total, address_exact, real_address_total, real_address_exact}
use Rattle.virt_ids.specs.Pairs.{AreInverse}
use Rattle.virt_ids.proofs.PairLaws.{paired, undone}
use Rattle.virt_ids.proofs.ids.Ids.add_addr.Goals as goal

pub invariant_of-self-in-Ok : goal.invariant_of-self-in-Ok
invariant_of-self-in-Ok c = (
  c.self.invariant.0,
  paired address_total address_exact real_address_total real_address_exact c.self.inside.real_addresses c.insert.new.self c.self.inside.virt_addresses c.insert-2.new.self c.args.v c.args.r c.contains_key.result c.contains_key-2.result c.self.invariant.1
      c.contains_key.ensures c.if-contains_key.false c.contains_key-2.ensures c.if-contains_key-2.false c.in_ok-insert.ensures.ok c.in-Ok.ensures.ok,
)

pub invariant_of-self-in_default : goal.invariant_of-self-in_default
invariant_of-self-in_default c =
    let same = undone address_total address_exact real_address_total real_address_exact c.self.inside.real_addresses c.insert.new.self c.remove.new.self c.args.v c.args.r c.contains_key.result c.contains_key.ensures c.if-contains_key.false c.in_ok-insert.ensures.ok c.remove.ensures.removed in
    (c.self.invariant.0, subst (λ m. AreInverse c.remove.new.self m) (sym c.in_default.ensures.err) (subst (λ m. AreInverse m c.self.inside.virt_addresses) (sym same) c.self.invariant.1))

pub returns-in_default-clause-err : goal.returns-in_default-clause-err
returns-in_default-clause-err c =
    let same = undone address_total address_exact real_address_total real_address_exact c.self.inside.real_addresses c.insert.new.self c.remove.new.self c.args.v c.args.r c.contains_key.result c.contains_key.ensures c.if-contains_key.false c.in_ok-insert.ensures.ok c.remove.ensures.removed in
    (λ i. record { pids = c.self.inside.real_pids; virts = c.self.inside.virt_pids; addresses = same i; ports = c.in_default.ensures.err i }) ∙ c.self.view_is

use Rattle.std.proofs.Common.{refl, sym, ap, subst, ◌∙◌}
use Rattle.std.specs.Cmp.{nat_cmp_total}
use Rattle.std.specs.FinMap.{nat_cmp-IsAntisymmetric}
use Rattle.virt_ids.specs.Pairs.{AreInverse}
use Rattle.virt_ids.proofs.PairLaws.{paired, undone}
use Rattle.virt_ids.proofs.ids.Ids.add_pid.Goals as goal
use Rattle.id_maps.proofs.OfSysAbi.OrderLaws.{real_pid_total, real_pid_exact}

pub invariant_of-self-in-Ok : goal.invariant_of-self-in-Ok
invariant_of-self-in-Ok c = (
  paired nat_cmp_total nat_cmp-IsAntisymmetric real_pid_total real_pid_exact c.self.inside.real_pids c.insert.new.self c.self.inside.virt_pids c.insert-2.new.self c.args.v c.args.r c.contains_key.result c.contains_key-2.result c.self.invariant.0
      c.contains_key.ensures c.if-contains_key.false c.contains_key-2.ensures c.if-contains_key-2.false c.in_ok-insert.ensures.ok c.in-Ok.ensures.ok,
  c.self.invariant.1,
)

pub invariant_of-self-in_default : goal.invariant_of-self-in_default
invariant_of-self-in_default c =
    let same = undone nat_cmp_total nat_cmp-IsAntisymmetric real_pid_total real_pid_exact c.self.inside.real_pids c.insert.new.self c.remove.new.self c.args.v c.args.r c.contains_key.result c.contains_key.ensures c.if-contains_key.false c.in_ok-insert.ensures.ok c.remove.ensures.removed in
    (subst (λ m. AreInverse c.remove.new.self m) (sym c.in_default.ensures.err) (subst (λ m. AreInverse m c.self.inside.virt_pids) (sym same) c.self.invariant.0), c.self.invariant.1)

pub returns-in_default-clause-err : goal.returns-in_default-clause-err
returns-in_default-clause-err c =
    let same = undone nat_cmp_total nat_cmp-IsAntisymmetric real_pid_total real_pid_exact c.self.inside.real_pids c.insert.new.self c.remove.new.self c.args.v c.args.r c.contains_key.result c.contains_key.ensures c.if-contains_key.false c.in_ok-insert.ensures.ok c.remove.ensures.removed in
    (λ i. record { pids = same i; virts = c.in_default.ensures.err i; addresses = c.self.inside.real_addresses; ports = c.self.inside.virt_addresses }) ∙ c.self.view_is

use Rattle.std.proofs.Common.{refl}
use Rattle.std.specs.Cmp.{nat_cmp_total}
use Rattle.std.specs.FinMap.{nat_cmp-IsAntisymmetric}
use Rattle.virt_ids.proofs.PairLaws.{unpaired, unpaired_none}
use Rattle.virt_ids.proofs.ids.Ids.drop_pid.Goals as goal
use Rattle.id_maps.proofs.OfSysAbi.OrderLaws.{real_pid_total, real_pid_exact}

pub invariant_of-self : goal.invariant_of-self
invariant_of-self c = (unpaired nat_cmp_total nat_cmp-IsAntisymmetric real_pid_total real_pid_exact c.self.inside.real_pids c.remove.new.self c.self.inside.virt_pids c.remove-in-Some.new.self c.args.v _ c.remove.result c.self.invariant.0 c.remove.ensures.before c.in-Some.is c.remove.ensures.removed c.remove-in-Some.ensures.removed, c.self.invariant.1)

pub invariant_of-self-in_default : goal.invariant_of-self-in_default
invariant_of-self-in_default c = (unpaired_none nat_cmp_total nat_cmp-IsAntisymmetric real_pid_total real_pid_exact c.self.inside.real_pids c.remove.new.self c.self.inside.virt_pids c.args.v c.remove.result c.self.invariant.0 c.remove.ensures.before c.in_default.is c.remove.ensures.removed, c.self.invariant.1)

use Rattle.std.proofs.Common.{refl}
use Rattle.id_maps.proofs.OfSysAbi.OrderLaws.{address_total, address_exact, real_address_total, real_address_exact}
use Rattle.virt_ids.proofs.PairLaws.{unpaired, unpaired_none}
use Rattle.virt_ids.proofs.ids.Ids.drop_addr.Goals as goal

pub invariant_of-self : goal.invariant_of-self
invariant_of-self c = (c.self.invariant.0, unpaired address_total address_exact real_address_total real_address_exact c.self.inside.real_addresses c.remove.new.self c.self.inside.virt_addresses c.remove-in-Some.new.self c.args.v _ c.remove.result c.self.invariant.1 c.remove.ensures.before c.in-Some.is c.remove.ensures.removed c.remove-in-Some.ensures.removed)

pub invariant_of-self-in_default : goal.invariant_of-self-in_default
invariant_of-self-in_default c = (c.self.invariant.0, unpaired_none address_total address_exact real_address_total real_address_exact c.self.inside.real_addresses c.remove.new.self c.self.inside.virt_addresses c.args.v c.remove.result c.self.invariant.1 c.remove.ensures.before c.in_default.is c.remove.ensures.removed)

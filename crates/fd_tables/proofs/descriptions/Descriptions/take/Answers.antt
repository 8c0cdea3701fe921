use Rattle.sys_abi.proofs.OfViews.TreeMaps.{view-remove}
use Rattle.sys_abi.proofs.OrderLaws.{desc_total, desc_exact}
use Rattle.fd_tables.proofs.DescriptionViews.{take_described, taken_good, take_none}
use Rattle.fd_tables.proofs.descriptions.Descriptions.take.Goals as goal

pub invariant_of-self : goal.invariant_of-self
invariant_of-self c = taken_good c.self.inside.index c.remove.new.self c.self.inside.slab c.try_remove.new.self c.args.id c.in-Some.key c.self.invariant c.in-Some.ensures.value (view-remove desc_total desc_exact c.self.inside.index c.remove.new.self c.args.id c.remove.ensures.updates.0) c.try_remove.ensures.updates

pub returns-in-Some : goal.returns-in-Some
returns-in-Some c =
    take_described c.self.inside.index c.remove.new.self c.self.inside.slab c.try_remove.new.self c.args.self.now c.args.id c.in-Some.key c.self.invariant c.in-Some.ensures.value (view-remove desc_total desc_exact c.self.inside.index c.remove.new.self c.args.id c.remove.ensures.updates.0) c.self.view_is c.try_remove.ensures.updates

pub returns-in_default : goal.returns-in_default
returns-in_default c = take_none c.self.inside.index c.remove.new.self c.self.inside.slab c.args.self.now c.args.id c.in_default.ensures.value (view-remove desc_total desc_exact c.self.inside.index c.remove.new.self c.args.id c.remove.ensures.updates.0) c.self.view_is

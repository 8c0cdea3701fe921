use Rattle.sys_abi.proofs.OfViews.TreeMaps.{view}
use Rattle.sys_abi.specs.Orders.{desc_cmp}
use Rattle.fd_tables.proofs.SlabLaws.{disowned_seen, disowned_good}
use Rattle.fd_tables.proofs.descriptions.Descriptions.disown.Goals as goal

pub invariant_of-self : goal.invariant_of-self
invariant_of-self c = disowned_good c.args.p (view desc_cmp c.self.inside.index) c.self.inside.slab c.disown_all.new.slab c.disown_all.ensures c.self.invariant

pub returns : goal.returns
returns c = disowned_seen c.args.p (view desc_cmp c.self.inside.index) c.self.inside.slab c.disown_all.new.slab c.disown_all.ensures c.args.self.now c.self.view_is

use Rattle.std.proofs.Common.{sym, ◌∙◌}
use Rattle.sys_abi.proofs.OfViews.TreeMaps.{view, get-view}
use Rattle.sys_abi.specs.Orders.{desc_cmp}
use Rattle.sys_abi.proofs.OrderLaws.{desc_total}
use Rattle.fd_tables.proofs.IndexLaws.{found_there, found_none}
use Rattle.fd_tables.proofs.descriptions.Descriptions.get.Goals as goal

pub returns-in-Some : goal.returns-in-Some
returns-in-Some c =
    c.get-in-Some.ensures
    ∙ sym (found_there (view desc_cmp c.self.inside.index) c.self.inside.slab c.args.self.now c.args.id c.in-Some.key.now c.self.invariant
    (get-view desc_total c.self.inside.index c.args.id ∙ sym c.in-Some.ensures.value) c.self.view_is)

pub returns-in-None : goal.returns-in-None
returns-in-None c =
    sym (found_none (view desc_cmp c.self.inside.index) c.self.inside.slab c.args.self.now c.args.id (get-view desc_total c.self.inside.index c.args.id ∙ sym c.in-None.ensures.value) c.self.view_is)

use Rattle.std.proofs.Common.{sym, ap, ◌∙◌}
use Rattle.sys_abi.proofs.OrderLaws.{address_total}
use Rattle.std.specs.FinMap as map
use Rattle.sys_abi.proofs.OfViews.TreeMaps.{values-view}
use Rattle.conn_maps.proofs.by_address.ByAddress.values.Goals as goal

pub returns : goal.returns
returns g c = c.values.ensures.rest ∙ sym (values-view address_total c.self.inside.entries c.values.ensures.ordered) ∙ ap map.values c.self.view_is

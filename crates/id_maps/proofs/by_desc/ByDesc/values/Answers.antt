use Rattle.std.proofs.Common.{sym, ap, ◌∙◌}
use Rattle.conn_maps.proofs.OfSysAbi.OrderLaws.{desc_total}
use Rattle.std.specs.FinMap as map
use Rattle.conn_maps.proofs.OfViews.TreeMaps.{values-view}
use Rattle.id_maps.proofs.by_desc.ByDesc.values.Goals as goal

pub returns : goal.returns
returns g c = c.values.ensures.rest ∙ sym (values-view desc_total c.self.inside.entries c.values.ensures.ordered) ∙ ap map.values c.self.view_is

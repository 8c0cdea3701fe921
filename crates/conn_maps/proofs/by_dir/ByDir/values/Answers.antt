use Rattle.std.proofs.Common.{sym, ap, ◌∙◌}
use Rattle.sys_abi.proofs.OrderLaws.{dir_total}
use Rattle.std.specs.FinMap as map
use Rattle.sys_abi.proofs.OfViews.TreeMaps.{values-view}
use Rattle.conn_maps.proofs.by_dir.ByDir.values.Goals as goal

pub returns : goal.returns
returns g c = c.values.ensures.rest ∙ sym (values-view dir_total c.self.inside.entries c.values.ensures.ordered) ∙ ap map.values c.self.view_is

use Rattle.std.proofs.Common.{sym, ap, ◌∙◌}
use Rattle.sys_abi.proofs.OrderLaws.{dir_total}
use Rattle.std.specs.FinMap as map
use Rattle.sys_abi.proofs.OfViews.TreeMaps.{keys-view}
use Rattle.conn_maps.proofs.by_dir.ByDir.keys.Goals as goal

pub returns : goal.returns
returns g c = c.keys.ensures.rest ∙ sym (keys-view dir_total c.self.inside.entries c.keys.ensures.ordered) ∙ ap map.keys c.self.view_is

use Rattle.std.proofs.Common.{sym, ap, ◌∙◌}
use Rattle.sys_abi.proofs.OrderLaws.{conn_total}
use Rattle.std.specs.FinMap as map
use Rattle.sys_abi.proofs.OfViews.TreeMaps.{entries-view}
use Rattle.conn_maps.proofs.by_conn.ByConn.iter.Goals as goal

pub returns : goal.returns
returns g c = c.iter.ensures.rest ∙ sym (entries-view conn_total c.self.inside.entries c.iter.ensures.ordered) ∙ ap map.entries c.self.view_is

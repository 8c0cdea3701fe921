use Rattle.std.proofs.Common.{sym, ap, ◌∙◌}
use Rattle.sys_abi.proofs.OrderLaws.{conn_total}
use Rattle.std.specs.FinMap as map
use Rattle.sys_abi.proofs.OfViews.TreeMaps.{len-view}
use Rattle.conn_maps.proofs.by_conn.ByConn.len.Goals as goal

pub returns : goal.returns
returns g c = c.len.ensures.len ∙ sym (len-view conn_total c.self.inside.entries c.len.ensures.ordered) ∙ ap map.len c.self.view_is

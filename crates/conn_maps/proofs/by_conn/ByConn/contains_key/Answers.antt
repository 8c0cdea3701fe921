use Rattle.std.proofs.Common.{sym, ap, ◌∙◌}
use Rattle.sys_abi.proofs.OrderLaws.{conn_total}
use Rattle.std.specs.FinMap as map
use Rattle.std.specs.Prelude.{is_some}
use Rattle.sys_abi.proofs.OfViews.TreeMaps.{get-view}
use Rattle.conn_maps.proofs.by_conn.ByConn.contains_key.Goals as goal

pub returns : goal.returns
returns g c = c.contains_key.ensures ∙ ap is_some (sym (get-view conn_total c.self.inside.entries c.args.key) ∙ ap (λ m. map.get m c.args.key) c.self.view_is)

use Rattle.std.proofs.Common.{sym, ap, ◌∙◌}
use Rattle.conn_maps.proofs.OfSysAbi.OrderLaws.{desc_total}
use Rattle.std.specs.FinMap as map
use Rattle.std.specs.Prelude.{is_some}
use Rattle.conn_maps.proofs.OfViews.TreeMaps.{get-view}
use Rattle.id_maps.proofs.by_desc.ByDesc.contains_key.Goals as goal

pub returns : goal.returns
returns g c = c.contains_key.ensures ∙ ap is_some (sym (get-view desc_total c.self.inside.entries c.args.key) ∙ ap (λ m. map.get m c.args.key) c.self.view_is)

use Rattle.std.proofs.Common.{sym, ap, ◌∙◌}
use Rattle.id_maps.proofs.OfSysAbi.OrderLaws.{real_address_total}
use Rattle.std.specs.FinMap as map
use Rattle.std.specs.Prelude.{is_some}
use Rattle.id_maps.proofs.OfViews.TreeMaps.{get-view}
use Rattle.virt_ids.proofs.by_real_address.ByRealAddress.contains_key.Goals as goal

pub returns : goal.returns
returns g c = c.contains_key.ensures ∙ ap is_some (sym (get-view real_address_total c.self.inside.entries c.args.key) ∙ ap (λ m. map.get m c.args.key) c.self.view_is)

use Rattle.std.proofs.Common.{sym, ap, ◌∙◌}
use Rattle.std.specs.Cmp.{nat_cmp_total}
use Rattle.std.specs.FinMap as map
use Rattle.std.specs.Prelude.{is_some}
use Rattle.views.proofs.TreeMaps.{get-view}
use Rattle.views.proofs.number_map.NumberMap.contains_key.Goals as goal

pub returns : goal.returns
returns g c = c.contains_key.ensures ∙ ap is_some (sym (get-view nat_cmp_total c.self.inside.tree c.args.key) ∙ ap (λ m. map.get m c.args.key) c.self.view_is)

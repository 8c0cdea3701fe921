use Rattle.std.proofs.Common.{sym, ap, ◌∙◌}
use Rattle.std.specs.Cmp.{nat_cmp_total}
use Rattle.std.specs.FinMap as map
use Rattle.views.proofs.TreeMaps.{values-view}
use Rattle.views.proofs.number_map.NumberMap.values.Goals as goal

pub returns : goal.returns
returns g c = c.values.ensures.rest ∙ sym (values-view nat_cmp_total c.self.inside.tree c.values.ensures.ordered) ∙ ap map.values c.self.view_is

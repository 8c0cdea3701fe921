use Rattle.std.proofs.Common.{sym, ap, ◌∙◌}
use Rattle.std.specs.Cmp.{nat_cmp_total}
use Rattle.std.specs.FinMap as map
use Rattle.views.proofs.TreeMaps.{entries-view}
use Rattle.views.proofs.number_map.NumberMap.iter.Goals as goal

pub returns : goal.returns
returns g c = c.iter.ensures.rest ∙ sym (entries-view nat_cmp_total c.self.inside.tree c.iter.ensures.ordered) ∙ ap map.entries c.self.view_is

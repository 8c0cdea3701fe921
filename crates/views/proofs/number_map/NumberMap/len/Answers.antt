use Rattle.std.proofs.Common.{sym, ap, ◌∙◌}
use Rattle.std.specs.Cmp.{nat_cmp_total}
use Rattle.std.specs.FinMap as map
use Rattle.views.proofs.TreeMaps.{len-view}
use Rattle.views.proofs.number_map.NumberMap.len.Goals as goal

pub returns : goal.returns
returns g c = c.len.ensures.len ∙ sym (len-view nat_cmp_total c.self.inside.tree c.len.ensures.ordered) ∙ ap map.len c.self.view_is

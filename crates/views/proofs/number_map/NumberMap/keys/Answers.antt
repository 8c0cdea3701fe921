use Rattle.std.proofs.Common.{sym, ap, ◌∙◌}
use Rattle.std.specs.Cmp.{nat_cmp_total}
use Rattle.std.specs.FinMap as map
use Rattle.views.proofs.TreeMaps.{keys-view}
use Rattle.views.proofs.number_map.NumberMap.keys.Goals as goal

pub returns : goal.returns
returns g c = c.keys.ensures.rest ∙ sym (keys-view nat_cmp_total c.self.inside.tree c.keys.ensures.ordered) ∙ ap map.keys c.self.view_is

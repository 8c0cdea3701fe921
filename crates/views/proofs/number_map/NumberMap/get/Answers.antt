use Rattle.std.specs.Cmp.{nat_cmp_total}
use Rattle.views.proofs.TreeMaps.{get-seen}
use Rattle.views.proofs.number_map.NumberMap.get.Goals as goal

pub returns : goal.returns
returns g c = get-seen nat_cmp_total c.self.inside.tree c.args.self.now c.args.key _ c.get.ensures.value c.self.view_is

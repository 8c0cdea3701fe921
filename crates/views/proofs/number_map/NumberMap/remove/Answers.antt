use Rattle.std.proofs.Common.{ap, ◌∙◌}
use Rattle.std.specs.Cmp.{nat_cmp_total}
use Rattle.std.specs.FinMap as map
use Rattle.views.proofs.TreeMaps.{get-seen, view-remove}
use Rattle.views.proofs.number_map.NumberMap.remove.Goals as goal

pub returns-clause-before : goal.returns-clause-before
returns-clause-before g c = get-seen nat_cmp_total c.self.inside.tree c.args.self.now c.args.key _ c.remove.ensures.value c.self.view_is

pub returns-clause-removed : goal.returns-clause-removed
returns-clause-removed g c =
    view-remove nat_cmp_total map.nat_cmp-IsAntisymmetric c.self.inside.tree c.remove.new.self c.args.key c.remove.ensures.updates.0
    ∙ ap (λ m. map.remove m c.args.key) c.self.view_is

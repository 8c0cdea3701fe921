use Rattle.std.proofs.Common.{ap, ◌∙◌}
use Rattle.std.specs.Cmp.{nat_cmp_total}
use Rattle.std.specs.FinMap as map
use Rattle.views.proofs.TreeMaps.{get-seen, view-insert}
use Rattle.views.proofs.number_map.NumberMap.insert.Goals as goal

pub returns-clause-before : goal.returns-clause-before
returns-clause-before g c = get-seen nat_cmp_total c.self.inside.tree c.args.self.now c.args.key _ c.in_ok-insert.ensures.old c.self.view_is

pub returns-clause-ok : goal.returns-clause-ok
returns-clause-ok g c =
    view-insert nat_cmp_total map.nat_cmp-IsAntisymmetric c.self.inside.tree c.insert.new.self c.args.key c.args.value c.in_ok-insert.ensures.updates.0
    ∙ ap (λ m. map.insert m c.args.key c.args.value) c.self.view_is

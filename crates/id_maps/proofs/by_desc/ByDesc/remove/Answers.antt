use Rattle.std.proofs.Common.{ap, ◌∙◌}
use Rattle.conn_maps.proofs.OfSysAbi.OrderLaws.{desc_total, desc_exact}
use Rattle.std.specs.FinMap as map
use Rattle.conn_maps.proofs.OfViews.TreeMaps.{get-seen, view-remove}
use Rattle.id_maps.proofs.by_desc.ByDesc.remove.Goals as goal

pub returns-clause-before : goal.returns-clause-before
returns-clause-before g c = get-seen desc_total c.self.inside.entries c.args.self.now c.args.key _ c.remove.ensures.value c.self.view_is

pub returns-clause-removed : goal.returns-clause-removed
returns-clause-removed g c =
    view-remove desc_total desc_exact c.self.inside.entries c.remove.new.self c.args.key c.remove.ensures.updates.0
    ∙ ap (λ m. map.remove m c.args.key) c.self.view_is

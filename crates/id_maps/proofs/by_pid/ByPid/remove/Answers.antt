use Rattle.std.proofs.Common.{ap, ◌∙◌}
use Rattle.conn_maps.proofs.OfSysAbi.OrderLaws.{vpid_total, vpid_exact}
use Rattle.std.specs.FinMap as map
use Rattle.conn_maps.proofs.OfViews.TreeMaps.{get-seen, view-remove}
use Rattle.id_maps.proofs.by_pid.ByPid.remove.Goals as goal

pub returns-clause-before : goal.returns-clause-before
returns-clause-before g c = get-seen vpid_total c.self.inside.entries c.args.self.now c.args.key _ c.remove.ensures.value c.self.view_is

pub returns-clause-removed : goal.returns-clause-removed
returns-clause-removed g c =
    view-remove vpid_total vpid_exact c.self.inside.entries c.remove.new.self c.args.key c.remove.ensures.updates.0
    ∙ ap (λ m. map.remove m c.args.key) c.self.view_is

use Rattle.std.proofs.Common.{ap, ◌∙◌}
use Rattle.id_maps.proofs.OfSysAbi.OrderLaws.{real_pid_total, real_pid_exact}
use Rattle.std.specs.FinMap as map
use Rattle.id_maps.proofs.OfViews.TreeMaps.{get-seen, view-remove}
use Rattle.virt_ids.proofs.by_real_pid.ByRealPid.remove.Goals as goal

pub returns-clause-before : goal.returns-clause-before
returns-clause-before g c = get-seen real_pid_total c.self.inside.entries c.args.self.now c.args.key _ c.remove.ensures.value c.self.view_is

pub returns-clause-removed : goal.returns-clause-removed
returns-clause-removed g c =
    view-remove real_pid_total real_pid_exact c.self.inside.entries c.remove.new.self c.args.key c.remove.ensures.updates.0
    ∙ ap (λ m. map.remove m c.args.key) c.self.view_is

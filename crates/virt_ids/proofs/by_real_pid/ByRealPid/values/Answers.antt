use Rattle.std.proofs.Common.{sym, ap, ◌∙◌}
use Rattle.id_maps.proofs.OfSysAbi.OrderLaws.{real_pid_total}
use Rattle.std.specs.FinMap as map
use Rattle.id_maps.proofs.OfViews.TreeMaps.{values-view}
use Rattle.virt_ids.proofs.by_real_pid.ByRealPid.values.Goals as goal

pub returns : goal.returns
returns g c = c.values.ensures.rest ∙ sym (values-view real_pid_total c.self.inside.entries c.values.ensures.ordered) ∙ ap map.values c.self.view_is

use Rattle.std.proofs.Common.{sym, ap, ◌∙◌}
use Rattle.id_maps.proofs.OfSysAbi.OrderLaws.{real_pid_total}
use Rattle.std.specs.FinMap as map
use Rattle.id_maps.proofs.OfViews.TreeMaps.{entries-view}
use Rattle.virt_ids.proofs.by_real_pid.ByRealPid.iter.Goals as goal

pub returns : goal.returns
returns g c = c.iter.ensures.rest ∙ sym (entries-view real_pid_total c.self.inside.entries c.iter.ensures.ordered) ∙ ap map.entries c.self.view_is

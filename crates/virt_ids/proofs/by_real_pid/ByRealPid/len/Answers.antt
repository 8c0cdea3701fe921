use Rattle.std.proofs.Common.{sym, ap, ◌∙◌}
use Rattle.id_maps.proofs.OfSysAbi.OrderLaws.{real_pid_total}
use Rattle.std.specs.FinMap as map
use Rattle.id_maps.proofs.OfViews.TreeMaps.{len-view}
use Rattle.virt_ids.proofs.by_real_pid.ByRealPid.len.Goals as goal

pub returns : goal.returns
returns g c = c.len.ensures.len ∙ sym (len-view real_pid_total c.self.inside.entries c.len.ensures.ordered) ∙ ap map.len c.self.view_is

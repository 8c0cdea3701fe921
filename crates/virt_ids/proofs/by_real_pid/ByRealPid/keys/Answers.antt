use Rattle.std.proofs.Common.{sym, ap, ◌∙◌}
use Rattle.id_maps.proofs.OfSysAbi.OrderLaws.{real_pid_total}
use Rattle.std.specs.FinMap as map
use Rattle.id_maps.proofs.OfViews.TreeMaps.{keys-view}
use Rattle.virt_ids.proofs.by_real_pid.ByRealPid.keys.Goals as goal

pub returns : goal.returns
returns g c = c.keys.ensures.rest ∙ sym (keys-view real_pid_total c.self.inside.entries c.keys.ensures.ordered) ∙ ap map.keys c.self.view_is

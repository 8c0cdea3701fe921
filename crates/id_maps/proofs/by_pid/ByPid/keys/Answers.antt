use Rattle.std.proofs.Common.{sym, ap, ◌∙◌}
use Rattle.conn_maps.proofs.OfSysAbi.OrderLaws.{vpid_total}
use Rattle.std.specs.FinMap as map
use Rattle.conn_maps.proofs.OfViews.TreeMaps.{keys-view}
use Rattle.id_maps.proofs.by_pid.ByPid.keys.Goals as goal

pub returns : goal.returns
returns g c = c.keys.ensures.rest ∙ sym (keys-view vpid_total c.self.inside.entries c.keys.ensures.ordered) ∙ ap map.keys c.self.view_is

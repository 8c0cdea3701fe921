use Rattle.std.proofs.Common.{sym, ap, ◌∙◌}
use Rattle.conn_maps.proofs.OfSysAbi.OrderLaws.{slot_total}
use Rattle.std.specs.FinMap as map
use Rattle.conn_maps.proofs.OfViews.TreeMaps.{len-view}
use Rattle.id_maps.proofs.by_slot.BySlot.len.Goals as goal

pub returns : goal.returns
returns g c = c.len.ensures.len ∙ sym (len-view slot_total c.self.inside.entries c.len.ensures.ordered) ∙ ap map.len c.self.view_is

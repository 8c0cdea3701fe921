use Rattle.std.proofs.Common.{sym, ap, ◌∙◌}
use Rattle.conn_maps.proofs.OfSysAbi.OrderLaws.{slot_total}
use Rattle.std.specs.FinMap as map
use Rattle.conn_maps.proofs.OfViews.TreeMaps.{entries-view}
use Rattle.id_maps.proofs.by_slot.BySlot.iter.Goals as goal

pub returns : goal.returns
returns g c = c.iter.ensures.rest ∙ sym (entries-view slot_total c.self.inside.entries c.iter.ensures.ordered) ∙ ap map.entries c.self.view_is

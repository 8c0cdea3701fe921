use Rattle.conn_maps.proofs.OfSysAbi.OrderLaws.{slot_total}
use Rattle.conn_maps.proofs.OfViews.TreeMaps.{get-seen}
use Rattle.id_maps.proofs.by_slot.BySlot.get.Goals as goal

pub returns : goal.returns
returns g c = get-seen slot_total c.self.inside.entries c.args.self.now c.args.key _ c.get.ensures.value c.self.view_is

use Rattle.conn_maps.proofs.OfSysAbi.OrderLaws.{desc_total}
use Rattle.conn_maps.proofs.OfViews.TreeMaps.{get-seen}
use Rattle.id_maps.proofs.by_desc.ByDesc.get.Goals as goal

pub returns : goal.returns
returns g c = get-seen desc_total c.self.inside.entries c.args.self.now c.args.key _ c.get.ensures.value c.self.view_is

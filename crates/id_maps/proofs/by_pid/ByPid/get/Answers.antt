use Rattle.conn_maps.proofs.OfSysAbi.OrderLaws.{vpid_total}
use Rattle.conn_maps.proofs.OfViews.TreeMaps.{get-seen}
use Rattle.id_maps.proofs.by_pid.ByPid.get.Goals as goal

pub returns : goal.returns
returns g c = get-seen vpid_total c.self.inside.entries c.args.self.now c.args.key _ c.get.ensures.value c.self.view_is

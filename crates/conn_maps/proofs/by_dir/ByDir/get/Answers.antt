use Rattle.sys_abi.proofs.OrderLaws.{dir_total}
use Rattle.sys_abi.proofs.OfViews.TreeMaps.{get-seen}
use Rattle.conn_maps.proofs.by_dir.ByDir.get.Goals as goal

pub returns : goal.returns
returns g c = get-seen dir_total c.self.inside.entries c.args.self.now c.args.key _ c.get.ensures.value c.self.view_is

use Rattle.id_maps.proofs.OfSysAbi.OrderLaws.{real_pid_total}
use Rattle.id_maps.proofs.OfViews.TreeMaps.{get-seen}
use Rattle.virt_ids.proofs.by_real_pid.ByRealPid.get.Goals as goal

pub returns : goal.returns
returns g c = get-seen real_pid_total c.self.inside.entries c.args.self.now c.args.key _ c.get.ensures.value c.self.view_is

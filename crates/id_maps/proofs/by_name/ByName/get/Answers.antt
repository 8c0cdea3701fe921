use Rattle.std.proofs.Common.{refl}
use Rattle.conn_maps.proofs.OfViews.SeenKeys.{get-found}
use Rattle.conn_maps.proofs.OfSysAbi.OrderLaws.{name_total}
use Rattle.id_maps.proofs.by_name.ByName.get.Goals as goal

pub returns : goal.returns
returns g c = get-found (λ n. n.items) name_total c.self.inside.entries.entries c.args.self.now c.args.name.now c.args.name.now _ c.get.ensures.value c.self.view_is refl

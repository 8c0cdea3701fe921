use Rattle.std.proofs.Common.{◌∙◌}
use Rattle.conn_maps.proofs.OfViews.SeenKeys.{len-seen}
use Rattle.conn_maps.proofs.OfSysAbi.OrderLaws.{name_total}
use Rattle.id_maps.proofs.by_name.ByName.len.Goals as goal

pub returns : goal.returns
returns g c = c.len.ensures.len ∙ len-seen (λ n. n.items) name_total c.self.inside.entries.entries c.args.self.now c.len.ensures.ordered c.self.view_is

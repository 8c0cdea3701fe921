use Rattle.std.proofs.Common.{◌∙◌}
use Rattle.conn_maps.proofs.OfViews.SeenKeys.{values-seen}
use Rattle.conn_maps.proofs.OfSysAbi.OrderLaws.{name_total}
use Rattle.id_maps.proofs.by_name.ByName.values.Goals as goal

pub returns : goal.returns
returns g c = c.values.ensures.rest ∙ values-seen (λ n. n.items) name_total c.self.inside.entries.entries c.args.self.now c.values.ensures.ordered c.self.view_is

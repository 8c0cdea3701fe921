use Rattle.std.proofs.Common.{sym, ap, ◌∙◌}
use Rattle.std.specs.FinMap as map
use Rattle.conn_maps.proofs.OfViews.SeenKeys.{entries-seen}
use Rattle.conn_maps.specs.OfSysAbi.Names.{by_name}
use Rattle.conn_maps.proofs.OfSysAbi.OrderLaws.{name_total, name_exact}
use Rattle.id_maps.proofs.by_name.ByName.iter.Goals as goal

pub returns : goal.returns
returns g c =
    ap by_name c.iter.ensures.rest
    ∙ sym (entries-seen (λ n. n.items) name_total name_exact c.self.inside.entries.entries c.iter.ensures.ordered)
    ∙ ap map.entries c.self.view_is

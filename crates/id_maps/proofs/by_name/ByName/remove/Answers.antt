use Rattle.std.proofs.Common.{refl, ap, ◌∙◌}
use Rattle.std.specs.FinMap as map
use Rattle.conn_maps.proofs.OfViews.SeenKeys.{get-found, removed_seen}
use Rattle.conn_maps.proofs.OfSysAbi.OrderLaws.{name_total, name_exact}
use Rattle.id_maps.proofs.by_name.ByName.remove.Goals as goal

pub returns-clause-before : goal.returns-clause-before
returns-clause-before g c =
    get-found (λ n. n.items) name_total c.self.inside.entries.entries c.args.self.now c.args.name.now c.args.name.now _ c.remove.ensures.value c.self.view_is refl

pub returns-clause-removed : goal.returns-clause-removed
returns-clause-removed g c =
    removed_seen (λ n. n.items) name_total name_exact c.args.name.now c.self.inside.entries.entries c.remove.new.self.entries c.remove.ensures.updates.1 c.remove.ensures.updates.3
    ∙ ap (λ m. map.remove m c.args.name.now) c.self.view_is

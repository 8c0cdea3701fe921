use Rattle.std.proofs.Common.{◌∙◌}
use Rattle.std.specs.FinMap as map
use Rattle.conn_maps.proofs.OfViews.SeenKeys.{get-found, inserted_seen}
use Rattle.conn_maps.proofs.OfSysAbi.OrderLaws.{name_total, name_exact}
use Rattle.id_maps.proofs.by_name.ByName.insert.Goals as goal

pub returns-clause-before : goal.returns-clause-before
returns-clause-before g c =
    get-found (λ n. n.items) name_total c.self.inside.entries.entries c.args.self.now c.into_vec.result.items c.args.name _ c.in_ok-insert.ensures.old c.self.view_is c.into_vec.ensures

pub returns-clause-ok : goal.returns-clause-ok
returns-clause-ok g c =
    inserted_seen (λ n. n.items) name_total name_exact c.into_vec.result.items c.args.value c.self.inside.entries.entries c.insert.new.self.entries c.in_ok-insert.ensures.updates.1 c.in_ok-insert.ensures.updates.3
    ∙ (λ i. map.insert (c.self.view_is i) (c.into_vec.ensures i) c.args.value)

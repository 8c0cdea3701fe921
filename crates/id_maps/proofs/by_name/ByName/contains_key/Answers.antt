use Rattle.std.proofs.Common.{refl, ap, ◌∙◌}
use Rattle.std.specs.Prelude.{is_some}
use Rattle.conn_maps.proofs.OfViews.SeenKeys.{get-found}
use Rattle.conn_maps.proofs.OfSysAbi.OrderLaws.{name_total}
use Rattle.id_maps.proofs.by_name.ByName.contains_key.Goals as goal

pub returns : goal.returns
returns g c =
    c.contains_key.ensures
    ∙ ap is_some (get-found (λ n. n.items) name_total c.self.inside.entries.entries c.args.self.now c.args.name.now c.args.name.now _ refl c.self.view_is refl)

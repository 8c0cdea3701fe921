use Rattle.std.proofs.Common.{ap, ◌∙◌}
use Rattle.id_maps.proofs.OfSysAbi.OrderLaws.{real_address_total, real_address_exact}
use Rattle.std.specs.FinMap as map
use Rattle.id_maps.proofs.OfViews.TreeMaps.{get-seen, view-insert}
use Rattle.virt_ids.proofs.by_real_address.ByRealAddress.insert.Goals as goal

pub returns-clause-before : goal.returns-clause-before
returns-clause-before g c = get-seen real_address_total c.self.inside.entries c.args.self.now c.args.key _ c.in_ok-insert.ensures.old c.self.view_is

pub returns-clause-ok : goal.returns-clause-ok
returns-clause-ok g c =
    view-insert real_address_total real_address_exact c.self.inside.entries c.insert.new.self c.args.key c.args.value c.in_ok-insert.ensures.updates.0
    ∙ ap (λ m. map.insert m c.args.key c.args.value) c.self.view_is

use Rattle.std.proofs.Common.{ap, ◌∙◌}
use Rattle.conn_maps.proofs.OfSysAbi.OrderLaws.{slot_total, slot_exact}
use Rattle.std.specs.FinMap as map
use Rattle.conn_maps.proofs.OfViews.TreeMaps.{get-seen, view-insert}
use Rattle.id_maps.proofs.by_slot.BySlot.insert.Goals as goal

pub returns-clause-before : goal.returns-clause-before
returns-clause-before g c = get-seen slot_total c.self.inside.entries c.args.self.now c.args.key _ c.in_ok-insert.ensures.old c.self.view_is

pub returns-clause-ok : goal.returns-clause-ok
returns-clause-ok g c =
    view-insert slot_total slot_exact c.self.inside.entries c.insert.new.self c.args.key c.args.value c.in_ok-insert.ensures.updates.0
    ∙ ap (λ m. map.insert m c.args.key c.args.value) c.self.view_is

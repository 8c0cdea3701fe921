use Rattle.std.proofs.Common.{sym, ◌∙◌}
use Rattle.sys_abi.proofs.OfViews.TreeMaps.{view-insert}
use Rattle.sys_abi.proofs.OrderLaws.{desc_total, desc_exact}
use Rattle.fd_tables.proofs.DescriptionViews.{on_err, roomier_same, entries_same, added_good, added_seen}
use Rattle.fd_tables.proofs.descriptions.Descriptions.add.Goals as goal

pub returns-in_err-reserve-clause-err : goal.returns-in_err-reserve-clause-err
returns-in_err-reserve-clause-err c = on_err c.from_residual.result (roomier_same c.self.inside.index c.self.inside.slab c.reserve.new.self c.args.self.now c.reserve.ensures.rest_kept c.self.view_is)

pub returns-in_err-insert-clause-err : goal.returns-in_err-insert-clause-err
returns-in_err-insert-clause-err c =
    on_err c.from_residual-in_err-insert.result
    (entries_same c.self.inside.index c.insert.new.self c.reserve.new.self c.args.self.now c.in_err-insert.ensures.err (roomier_same c.self.inside.index c.self.inside.slab c.reserve.new.self c.args.self.now c.reserve.ensures.rest_kept c.self.view_is))

pub invariant_of-self-2 : goal.invariant_of-self-2
invariant_of-self-2 c =
    added_good c.self.inside.index c.insert.new.self c.self.inside.slab c.reserve.new.self c.insert_reserved.new.self c.args.self.now c.args.id c.vacant_key.result c.insert_reserved.result c.args.value c.self.invariant c.self.view_is c.requires c.reserve.ensures.rest_kept
    c.vacant_key.ensures.vacant (c.insert_reserved.ensures.key ∙ sym c.vacant_key.ensures.value) c.insert_reserved.ensures.updates
    (view-insert desc_total desc_exact c.self.inside.index c.insert.new.self c.args.id c.vacant_key.result c.in_ok-insert.ensures.updates.0)

pub returns-clause-ok : goal.returns-clause-ok
returns-clause-ok c =
    added_seen c.self.inside.index c.insert.new.self c.self.inside.slab c.reserve.new.self c.insert_reserved.new.self c.args.self.now c.args.id c.vacant_key.result c.insert_reserved.result c.args.value c.self.invariant c.self.view_is c.requires c.reserve.ensures.rest_kept
    c.vacant_key.ensures.vacant (c.insert_reserved.ensures.key ∙ sym c.vacant_key.ensures.value) c.insert_reserved.ensures.updates
    (view-insert desc_total desc_exact c.self.inside.index c.insert.new.self c.args.id c.vacant_key.result c.in_ok-insert.ensures.updates.0)

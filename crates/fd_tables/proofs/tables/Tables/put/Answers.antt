use Rattle.sys_abi.proofs.OfViews.TreeMaps.{view-insert}
use Rattle.fd_tables.specs.Slots.{slot}
use Rattle.fd_tables.proofs.TableViews.{seen, told_insert, put_new}
use Rattle.std.proofs.Common.{refl}
use Rattle.fd_tables.proofs.InRange.{inserted_in_range}
use Rattle.fd_tables.proofs.tables.Tables.put.Goals as goal
use Rattle.sys_abi.proofs.OrderLaws.{real_pid_total, real_pid_exact}

pub returns-then-set_place-clause-ok : goal.returns-then-set_place-clause-ok
returns-then-set_place-clause-ok c =
    told_insert (seen c.self.inside.tables) (seen c.set_place.new.tables) c.args.self.now (slot c.args.p c.args.fd) c.args.descriptor c.if-set_place.ensures.set c.self.view_is

pub returns-clause-ok : goal.returns-clause-ok
returns-clause-ok c =
    put_new c.self.inside.tables c.set_place.new.tables c.insert.new.self c.args.self.now c.args.p c.args.fd c.args.descriptor c.set.new.self c.in_ok-table.table
    c.if-set_place.ensures.absent c.if-set_place.ensures.no_table c.self.view_is
    (view-insert real_pid_total real_pid_exact c.set_place.new.tables c.insert.new.self c.args.p c.set.new.self c.in_ok-insert.ensures.updates.0)
    c.set.ensures.here c.set.ensures.others c.in_ok-table.ensures

pub invariant_of-self-2 : goal.invariant_of-self-2
invariant_of-self-2 c =
    inserted_in_range (seen c.self.inside.tables) (seen c.insert.new.self) (slot c.args.p c.args.fd) c.args.descriptor c.requires
    (put_new c.self.inside.tables c.set_place.new.tables c.insert.new.self (seen c.self.inside.tables) c.args.p c.args.fd c.args.descriptor c.set.new.self c.in_ok-table.table
    c.if-set_place.ensures.absent c.if-set_place.ensures.no_table refl
    (view-insert real_pid_total real_pid_exact c.set_place.new.tables c.insert.new.self c.args.p c.set.new.self c.in_ok-insert.ensures.updates.0)
    c.set.ensures.here c.set.ensures.others c.in_ok-table.ensures)
    c.self.invariant

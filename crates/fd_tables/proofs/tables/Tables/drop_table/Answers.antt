use Rattle.sys_abi.proofs.OfViews.TreeMaps.{view-remove}
use Rattle.fd_tables.proofs.TableViews.{dropped_same}
use Rattle.std.proofs.Common.{sym, ◌∙◌, subst}
use Rattle.fd_tables.specs.Slots.{AreInRange}
use Rattle.fd_tables.proofs.tables.Tables.drop_table.Goals as goal
use Rattle.sys_abi.proofs.OrderLaws.{real_pid_total, real_pid_exact}

pub returns : goal.returns
returns c =
    dropped_same c.self.inside.tables c.remove.new.self c.args.self.now c.args.p
    (view-remove real_pid_total real_pid_exact c.self.inside.tables c.remove.new.self c.args.p c.remove.ensures.updates.0) c.self.view_is c.requires

pub invariant_of-self : goal.invariant_of-self
invariant_of-self c =
    subst AreInRange
    (c.self.view_is
    ∙ sym (dropped_same c.self.inside.tables c.remove.new.self c.args.self.now c.args.p
    (view-remove real_pid_total real_pid_exact c.self.inside.tables c.remove.new.self c.args.p c.remove.ensures.updates.0) c.self.view_is c.requires))
    c.self.invariant

use Rattle.std.proofs.Common.{None, sym, ◌∙◌, arith}
use Rattle.sys_abi.proofs.OfViews.TreeMaps.{view-insert}
use Rattle.fd_tables.proofs.TableViews.{seen_at, copied_same, copied_others}
use Rattle.std.proofs.Common.{refl}
use Rattle.fd_tables.proofs.TableViews.{seen}
use Rattle.fd_tables.proofs.InRange.{copied_in_range}
use Rattle.fd_tables.proofs.tables.Tables.copy.Goals as goal
use Rattle.sys_abi.proofs.OrderLaws.{real_pid_total, real_pid_exact}

pub returns-in_default-clause-same : goal.returns-in_default-clause-same
returns-in_default-clause-same c = λ fd.
    c.requires fd (omega arith) ∙ sym (seen_at c.self.inside.tables c.args.self.now c.args.p fd None c.in_default.ensures.value c.self.view_is)

pub returns-clause-same : goal.returns-clause-same
returns-clause-same c =
    copied_same c.self.inside.tables c.insert.new.self c.args.self.now c.args.p c.args.child c.in_ok-copy.copy c.in-Some.table.now
    (view-insert real_pid_total real_pid_exact c.self.inside.tables c.insert.new.self c.args.child c.in_ok-copy.copy c.in_ok-insert.ensures.updates.0)
    c.in_ok-copy.ensures c.in-Some.ensures.value c.self.view_is

pub returns-clause-others : goal.returns-clause-others
returns-clause-others c =
    copied_others c.self.inside.tables c.insert.new.self c.args.self.now c.args.child c.in_ok-copy.copy
    (view-insert real_pid_total real_pid_exact c.self.inside.tables c.insert.new.self c.args.child c.in_ok-copy.copy c.in_ok-insert.ensures.updates.0)
    c.self.view_is

pub invariant_of-self-2 : goal.invariant_of-self-2
invariant_of-self-2 c =
    let inserted = view-insert real_pid_total real_pid_exact c.self.inside.tables c.insert.new.self c.args.child c.in_ok-copy.copy c.in_ok-insert.ensures.updates.0 in
    copied_in_range (seen c.self.inside.tables) (seen c.insert.new.self) c.args.p c.args.child
    (copied_same c.self.inside.tables c.insert.new.self (seen c.self.inside.tables) c.args.p c.args.child c.in_ok-copy.copy c.in-Some.table.now inserted c.in_ok-copy.ensures c.in-Some.ensures.value refl)
    (copied_others c.self.inside.tables c.insert.new.self (seen c.self.inside.tables) c.args.child c.in_ok-copy.copy inserted refl)
    c.self.invariant

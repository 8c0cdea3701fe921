use Rattle.std.proofs.Common.{None, refl, subst}
use Rattle.std.specs.Prelude.{IsSome}
use Rattle.std.specs.BTreeMap as tree
use Rattle.sys_abi.proofs.OfViews.TreeMaps.{view-insert}
use Rattle.fd_tables.proofs.TableViews.{set_told, seen_at}
use Rattle.fd_tables.proofs.tables.set_place.Goals as goal
use Rattle.sys_abi.specs.Orders.{real_pid_cmp}
use Rattle.sys_abi.proofs.OrderLaws.{real_pid_total, real_pid_exact}

pub returns-in-Some-clause-set : goal.returns-in-Some-clause-set
returns-in-Some-clause-set c =
    let lent = c.get_mut.follows in
    let present : IsSome (tree.get real_pid_cmp c.args.tables.now c.args.p) = subst IsSome c.in-Some.ensures.value refl in
    let updates = ((lent.holds c.set.new.self).3 present).0 in
    set_told c.args.tables.now (lent.lender c.set.new.self) c.args.p c.args.fd c.args.place c.in-Some.table.now c.set.new.self
    (view-insert real_pid_total real_pid_exact c.args.tables.now (lent.lender c.set.new.self) c.args.p c.set.new.self updates)
    c.in-Some.ensures.value c.set.ensures.here c.set.ensures.others

pub returns-in-None-clause-no_table : goal.returns-in-None-clause-no_table
returns-in-None-clause-no_table c = λ number. seen_at c.args.tables.now _ c.args.p number None c.in-None.ensures.value refl

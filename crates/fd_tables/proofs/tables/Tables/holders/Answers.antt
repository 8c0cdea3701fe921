use Rattle.std.proofs.Common.{sym, subst, ◌∙◌}
use Rattle.std.specs.List.Sorted.{IsStrictlySortedBy}
use Rattle.fd_tables.proofs.Holders.{all_listed, sorted_holders, listed_holders}
use Rattle.fd_tables.proofs.tables.Tables.holders.Goals as goal
use Rattle.sys_abi.specs.Orders.{real_pid_cmp}

pub returns-clause-sorted : goal.returns-clause-sorted
returns-clause-sorted c =
    subst (IsStrictlySortedBy real_pid_cmp)
    (sym (all_listed c.args.id c.loop-p.list.items c.loop-p.p-iterator c.into_iter-p-iterator.result c.self.inside.tables.entries c.loop-p.invariant c.in-None.ensures.steps.0 (c.into_iter-p-iterator.ensures.into_iter_gives ∙ c.iter-p-items.ensures.rest)))
    (sorted_holders c.args.id c.self.inside.tables.entries c.iter-p-items.ensures.ordered)

pub returns-clause-listed : goal.returns-clause-listed
returns-clause-listed c =
    listed_holders c.self.inside.tables c.args.self.now c.args.id c.loop-p.list.items c.iter-p-items.ensures.ordered c.self.view_is
    (all_listed c.args.id c.loop-p.list.items c.loop-p.p-iterator c.into_iter-p-iterator.result c.self.inside.tables.entries c.loop-p.invariant c.in-None.ensures.steps.0 (c.into_iter-p-iterator.ensures.into_iter_gives ∙ c.iter-p-items.ensures.rest))

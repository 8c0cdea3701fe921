use Rattle.std.proofs.Common.{sym, ◌∙◌, subst}
use Rattle.std.proofs.lemmas.Option.{none-some}
use Rattle.proc_book.specs.Procs.{ProcTable}
use Rattle.rebuild_processes.specs.Making.{IsAt}
use Rattle.rebuild_processes.proofs.EndedChildren.{its_parent, parent_lives, parent_apart, parent_none, IsLiveChild-begun, IsChildless-begun, IsAt-ended}
use Rattle.rebuild_processes.proofs.filling.fill_zombie.Goals as goal

pub unreachable-requires : goal.unreachable-requires
unreachable-requires c =
    let parent =
    its_parent c.args.hosts.now c.args.kernel.now c.requires.whole c.args.p c.args.r c.args.process.now
    c.requires.process c.args.status c.requires.dead c.args.m.now c.requires.begun in
    none-some parent.0 (sym c.in_default.is ∙ c.parent_of.ensures ∙ parent.1)

pub leave_zombie-requires-clause-child : goal.leave_zombie-requires-clause-child
leave_zombie-requires-clause-child c =
    IsLiveChild-begun c.args.hosts.now c.args.kernel.now c.requires.whole c.args.p c.args.r c.args.process.now
    c.requires.process c.args.status c.requires.dead c.args.m.now c.requires.begun c.in-Some.parent
    (sym c.parent_of.ensures ∙ c.in-Some.is)

pub leave_zombie-requires-clause-childless : goal.leave_zombie-requires-clause-childless
leave_zombie-requires-clause-childless c =
    IsChildless-begun c.args.hosts.now c.args.kernel.now c.requires.whole c.args.p c.args.r c.args.process.now
    c.requires.process c.args.status c.requires.dead c.args.m.now c.requires.begun c.in-Some.parent
    (sym c.parent_of.ensures ∙ c.in-Some.is)

pub leave_zombie-requires-clause-apart : goal.leave_zombie-requires-clause-apart
leave_zombie-requires-clause-apart c =
    parent_apart c.args.hosts.now c.args.kernel.now c.requires.whole c.args.p c.args.r c.args.process.now
    c.requires.process c.args.status c.requires.dead c.args.m.now c.requires.begun c.in-Some.parent
    (sym c.parent_of.ensures ∙ c.in-Some.is)

pub leave_zombie-requires-clause-lives : goal.leave_zombie-requires-clause-lives
leave_zombie-requires-clause-lives c =
    parent_lives c.args.hosts.now c.args.kernel.now c.requires.whole c.args.p c.args.r c.args.process.now
    c.requires.process c.args.status c.requires.dead c.args.m.now c.requires.begun c.in-Some.parent
    (sym c.parent_of.ensures ∙ c.in-Some.is)

pub leave_zombie-requires-clause-none : goal.leave_zombie-requires-clause-none
leave_zombie-requires-clause-none c =
    parent_none c.args.hosts.now c.args.kernel.now c.requires.whole c.args.p c.args.r c.args.process.now
    c.requires.process c.args.status c.requires.dead c.args.m.now c.requires.begun c.in-Some.parent
    (sym c.parent_of.ensures ∙ c.in-Some.is)

pub returns-clause-made : goal.returns-clause-made
returns-clause-made c =
    subst (λ (q : ProcTable). IsAt c.args.hosts.now c.args.kernel.now c.args.p c.args.r c.args.process.now
    (record { procs = q; ids = c.args.m.now.ids })) (sym c.leave_zombie.ensures)
    (IsAt-ended c.args.hosts.now c.args.kernel.now c.requires.whole c.args.p c.args.r c.args.process.now
    c.requires.process c.args.status c.requires.dead c.args.m.now c.requires.begun c.in-Some.parent
    (sym c.parent_of.ensures ∙ c.in-Some.is))

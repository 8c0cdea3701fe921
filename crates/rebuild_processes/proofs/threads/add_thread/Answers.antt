use Rattle.std.proofs.Common.{◌+◌, sym, subst}
use Rattle.proc_book.specs.Procs.{ProcTable}
use Rattle.rebuild_processes.specs.Making.{IsThreaded}
use Rattle.rebuild_processes.proofs.MoreThreads.{thread_node, thread_lives, IsThreaded-passed, more_can, more_pends, IsThreaded-more}
use Rattle.rebuild_processes.proofs.threads.add_thread.Goals as goal

pub returns-then-t-p-clause-made : goal.returns-then-t-p-clause-made
returns-then-t-p-clause-made c =
    IsThreaded-passed c.args.hosts.now c.args.kernel.now c.args.p c.args.r c.args.process.now c.args.t
    c.args.m.now c.requires.made c.if-t-p.true

pub begin_thread-requires-clause-node : goal.begin_thread-requires-clause-node
begin_thread-requires-clause-node c =
    thread_node c.args.hosts.now c.args.kernel.now c.args.p c.args.r c.args.process.now c.args.t c.args.m.now
    c.requires.made

pub begin_thread-requires-clause-lives : goal.begin_thread-requires-clause-lives
begin_thread-requires-clause-lives c =
    thread_lives c.args.hosts.now c.args.kernel.now c.args.p c.args.r c.args.process.now c.args.t c.args.m.now
    c.requires.made

pub raise_set-requires-clause-small : goal.raise_set-requires-clause-small
raise_set-requires-clause-small c =
    ((c.requires.whole.processes.each c.args.p c.args.process.now c.requires.process).threads c.args.t c.args.set
    c.requires.thread).1

pub raise_set-requires-clause-alive : goal.raise_set-requires-clause-alive
raise_set-requires-clause-alive c =
    more_can c.args.hosts.now c.args.kernel.now c.args.p c.args.r c.args.process.now c.args.t c.args.m.now
    c.requires.made c.args.set c.requires.thread
    ((c.requires.whole.processes.each c.args.p c.args.process.now c.requires.process).threads c.args.t c.args.set
    c.requires.thread).0.0
    c.if-t-p.false c.begin_thread.new.m c.in_ok-number.number c.in_ok-number.ensures

pub raise_set-requires-clause-none : goal.raise_set-requires-clause-none
raise_set-requires-clause-none c =
    more_pends c.args.hosts.now c.args.kernel.now c.args.p c.args.r c.args.process.now c.args.t c.args.m.now
    c.requires.made c.args.set c.requires.thread
    ((c.requires.whole.processes.each c.args.p c.args.process.now c.requires.process).threads c.args.t c.args.set
    c.requires.thread).0.0
    c.if-t-p.false c.begin_thread.new.m c.in_ok-number.number c.in_ok-number.ensures

pub returns-clause-made : goal.returns-clause-made
returns-clause-made c =
    subst (λ (q : ProcTable). IsThreaded c.args.hosts.now c.args.kernel.now c.args.p c.args.r c.args.process.now
    (c.args.t + 1) (record { procs = q; ids = c.begin_thread.new.m.ids })) (sym c.raise_set.ensures)
    (IsThreaded-more c.args.hosts.now c.args.kernel.now c.args.p c.args.r c.args.process.now c.args.t c.args.m.now
    c.requires.made c.args.set c.requires.thread
    ((c.requires.whole.processes.each c.args.p c.args.process.now c.requires.process).threads c.args.t c.args.set
    c.requires.thread).0.0
    c.if-t-p.false c.begin_thread.new.m c.in_ok-number.number c.in_ok-number.ensures)

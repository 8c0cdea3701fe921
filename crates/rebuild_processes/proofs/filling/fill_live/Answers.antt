use Rattle.std.proofs.Common.{sym, subst}
use Rattle.proc_book.specs.Procs.{ProcTable}
use Rattle.rebuild_processes.specs.Making.{IsAt, GaveOut}
use Rattle.rebuild_processes.proofs.AllThreads.{filled_can, filled_pends, IsAt-filled}
use Rattle.rebuild_processes.proofs.filling.fill_live.Goals as goal

pub raise_set-requires-clause-small : goal.raise_set-requires-clause-small
raise_set-requires-clause-small c =
    (c.requires.whole.processes.each c.args.p c.args.process.now c.requires.process).pending

pub raise_set-requires-clause-alive : goal.raise_set-requires-clause-alive
raise_set-requires-clause-alive c =
    filled_can c.args.hosts.now c.args.kernel.now c.args.p c.args.r c.args.process.now c.add_threads.new.m
    c.in_ok-add_threads.ensures.made c.requires.live

pub raise_set-requires-clause-none : goal.raise_set-requires-clause-none
raise_set-requires-clause-none c =
    filled_pends c.args.hosts.now c.args.kernel.now c.args.p c.args.r c.args.process.now c.add_threads.new.m
    c.in_ok-add_threads.ensures.made

pub returns-clause-made : goal.returns-clause-made
returns-clause-made c =
    subst (λ (q : ProcTable). IsAt c.args.hosts.now c.args.kernel.now c.args.p c.args.r c.args.process.now
    (record { procs = q; ids = c.add_threads.new.m.ids })) (sym c.raise_set.ensures)
    (IsAt-filled c.args.hosts.now c.args.kernel.now c.args.p c.args.r c.args.process.now c.add_threads.new.m
    c.in_ok-add_threads.ensures.made)

pub returns-clause-numbers : goal.returns-clause-numbers
returns-clause-numbers c =
    subst (λ (q : ProcTable). GaveOut 64 c.args.m.now.procs.next q.next) (sym c.raise_set.ensures)
    c.in_ok-add_threads.ensures.numbers

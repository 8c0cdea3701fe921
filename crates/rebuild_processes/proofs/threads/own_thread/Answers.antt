use Rattle.std.proofs.Common.{sym, ap, ◌∙◌, subst}
use Rattle.std.specs.Option.{option_copied}
use Rattle.proc_book.specs.Procs.{ProcTable}
use Rattle.rebuild_processes.specs.Making.{IsThreaded}
use Rattle.rebuild_processes.proofs.OwnThreads.{own_can, own_pends, IsThreaded-own, IsThreaded-none}
use Rattle.rebuild_processes.proofs.threads.own_thread.Goals as goal

pub raise_set-requires-clause-small : goal.raise_set-requires-clause-small
raise_set-requires-clause-small c =
    ((c.requires.whole.processes.each c.args.p c.args.process.now c.requires.process).threads c.args.p.0
    c.in-Some.set.now (sym c.get.ensures ∙ ap option_copied c.in-Some.is)).1

pub raise_set-requires-clause-alive : goal.raise_set-requires-clause-alive
raise_set-requires-clause-alive c =
    own_can c.args.hosts.now c.args.kernel.now c.args.p c.args.r c.args.process.now c.args.m.now c.requires.begun

pub raise_set-requires-clause-none : goal.raise_set-requires-clause-none
raise_set-requires-clause-none c =
    own_pends c.args.hosts.now c.args.kernel.now c.args.p c.args.r c.args.process.now c.args.m.now
    c.requires.begun

pub returns-in-None-clause-made : goal.returns-in-None-clause-made
returns-in-None-clause-made c =
    subst (λ (q : ProcTable). IsThreaded c.args.hosts.now c.args.kernel.now c.args.p c.args.r c.args.process.now 0
    (record { procs = q; ids = c.args.m.now.ids })) (sym c.end_thread.ensures)
    (IsThreaded-none c.args.hosts.now c.args.kernel.now c.args.p c.args.r c.args.process.now c.args.m.now
    c.requires.begun (sym c.get.ensures ∙ ap option_copied c.in-None.is))

pub returns-in-Some-clause-made : goal.returns-in-Some-clause-made
returns-in-Some-clause-made c =
    subst (λ (q : ProcTable). IsThreaded c.args.hosts.now c.args.kernel.now c.args.p c.args.r c.args.process.now 0
    (record { procs = q; ids = c.args.m.now.ids })) (sym c.raise_set.ensures)
    (IsThreaded-own c.args.hosts.now c.args.kernel.now c.args.p c.args.r c.args.process.now c.args.m.now
    c.requires.begun c.in-Some.set.now (sym c.get.ensures ∙ ap option_copied c.in-Some.is))

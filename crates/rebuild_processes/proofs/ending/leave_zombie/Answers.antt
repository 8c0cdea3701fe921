use Rattle.std.proofs.Common.{sym, ap, ◌∙◌}
use Rattle.sys_abi.specs.Signals.{has_signal}
use Rattle.proc_book.specs.Ends.{Processes}
use Rattle.proc_book.specs.Procs.{ProcTable, after_take}
use Rattle.rebuild_processes.proofs.Zombies.{ended_had, ended_taken}
use Rattle.rebuild_processes.proofs.ending.leave_zombie.Goals as goal

pub returns-then-not-had : goal.returns-then-not-had
returns-then-not-had c =
    c.take.ensures.taken
    ∙ ap (λ (q : ProcTable). record q { processes = after_take q.processes c.args.parent 0 17 })
    c.end_process.ensures
    ∙ ap (λ (m : Processes). record c.args.procs.now { processes = m })
    (ended_taken c.args.procs.now.processes c.args.r c.args.parent c.args.status c.requires.child
    c.requires.childless c.requires.apart c.requires.lives c.requires.none
    (ap (λ n. has_signal n 17) (sym c.pending_of.ensures) ∙ sym c.has_signal-had.ensures ∙ c.if-not-had.true))

pub returns-else-not-had : goal.returns-else-not-had
returns-else-not-had c =
    c.end_process.ensures
    ∙ ap (λ (m : Processes). record c.args.procs.now { processes = m })
    (ended_had c.args.procs.now.processes c.args.r c.args.parent c.args.status c.requires.child
    c.requires.childless c.requires.apart c.requires.lives c.requires.none
    (ap (λ n. has_signal n 17) (sym c.pending_of.ensures) ∙ sym c.has_signal-had.ensures
    ∙ c.if-not-had.false))

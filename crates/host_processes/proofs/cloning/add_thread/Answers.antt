use Rattle.std.proofs.Common.{Ok, Err, refl, sym, ap, subst}
use Rattle.sys_abi.specs.declared.errors.TheConstants.{EAGAIN}
use Rattle.proc_book.specs.Procs.{ProcTable, threads_at}
use Rattle.plain_machine.specs.Rows.Clone.{clone_thread}
use Rattle.host_descriptors.specs.OfHostTables.declared.attempt.Attempt.TheVariants.{Fails}
use Rattle.host_descriptors.specs.OfHostTables.Serves.{Serves, ByPid, silent}
use Rattle.host_processes.specs.Forks.{paired_with}
use Rattle.host_processes.proofs.CloneRows.{has_room, no_room, thread_full, thread_serves}
use Rattle.host_processes.proofs.cloning.add_thread.Goals as goal

pub returns-in-Ok-clause-ok : goal.returns-in-Ok-clause-ok
returns-in-Ok-clause-ok c g k p whole st paired flags x last below =
    let real = c.args.kernel.now in
    thread_serves g real k whole st p c.args.who paired flags x last c.requires.alive below
    (has_room (threads_at real.procs.processes c.args.who) (Ok c.in-Ok.thread) c.in-Ok.thread refl
    c.in-Ok.ensures.refused)
    c.add_thread.new.self c.in-Ok.thread c.in-Ok.ensures.number c.in-Ok.ensures.ok

pub returns-in-Err-Full-clause-ok : goal.returns-in-Err-Full-clause-ok
returns-in-Err-Full-clause-ok c g k p whole st paired flags x last below =
    let real = c.args.kernel.now in
    subst (λ (t : ProcTable). Serves (ByPid c.args.who) (paired_with c.args.who) g real
    (record real { procs = t }) x x (Fails (record { 0 = EAGAIN })) (silent (clone_thread k p flags)))
    (sym c.in-Err-Full.ensures.err)
    (thread_full g real k whole st p c.args.who paired flags x last
    (no_room (threads_at real.procs.processes c.args.who) (Err c.in-Err-Full.field-0)
    (ap Err c.in-Err-Full.field-0-is) c.in-Err-Full.ensures.granted))

use Rattle.std.proofs.Common.{◌<◌, sym, subst, arith}
use Rattle.proc_book.specs.Procs.{ProcTable, threads_at}
use Rattle.plain_machine.specs.Rows.End.{exit_row}
use Rattle.host_descriptors.specs.OfHostTables.declared.attempt.Attempt.TheVariants as answer
use Rattle.host_descriptors.specs.OfHostTables.Serves.{Serves, ByNumber, same}
use Rattle.host_processes.proofs.ThreadEnds.{exit_kept}
use Rattle.host_processes.proofs.ending.exit_thread.Goals as goal

pub returns-clause-row : goal.returns-clause-row
returns-clause-row c _ g k p whole st paired t code x thread =
    let real = c.args.kernel.now in
    let many = c.if-thread_count-le1.false in
    let count = c.thread_count.ensures in
    let more : 1 < threads_at real.procs.processes c.args.who = grind (arith, many, count) in
    subst (λ (w : ProcTable). Serves ByNumber same g real (record real { procs = w }) x x (answer.Gives 0)
    (exit_row k p t code)) (sym c.end_thread.ensures)
    (exit_kept g real k st p c.args.who paired t c.args.thread thread more code x)

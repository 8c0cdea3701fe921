use Rattle.std.proofs.Common.{sym, ap, ◌∙◌}
use Rattle.std.specs.FinMap as map
use Rattle.views.proofs.MapLaws.{insert_same}
use Rattle.proc_book.specs.Procs.{with_thread}
use Rattle.virt_ids.proofs.OfSysAbi.OrderLaws.{real_pid_total, real_pid_exact}
use Rattle.virt_ids.proofs.Lends.{changed-found}
use Rattle.proc_book.proofs.procs.add_thread_at.Goals as goal
use Rattle.views.proofs.Outcomes.{on_some, on_ok_then, on_err_then}

pub returns-clause-ok : goal.returns-clause-ok
returns-clause-ok c = on_ok_then c.add_thread.result c.add_thread.ensures.ok (λ is.
    on_some c.in-Some.is (c.get_mut.follows.holds c.add_thread.new.self) ∙ ap (map.insert c.args.processes.now c.args.p) is
    ∙ changed-found c.args.processes.now c.args.p (with_thread c.args.number) c.in-Some.process.now c.in-Some.ensures.value)

pub returns-clause-err : goal.returns-clause-err
returns-clause-err c = on_err_then c.add_thread.result c.add_thread.ensures.err (λ same.
    on_some c.in-Some.is (c.get_mut.follows.holds c.add_thread.new.self) ∙ ap (map.insert c.args.processes.now c.args.p) same
    ∙ insert_same real_pid_total real_pid_exact c.args.processes.now c.args.p c.in-Some.process.now (sym c.in-Some.ensures.value))

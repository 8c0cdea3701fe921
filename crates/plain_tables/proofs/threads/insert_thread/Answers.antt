use Rattle.std.proofs.Common.{sym, ap, ◌∙◌}
use Rattle.std.specs.FinMap as map
use Rattle.plain_process.proofs.OfViews.MapLaws.{insert_same}
use Rattle.id_maps.proofs.OfSysAbi.OrderLaws.{vpid_total, vpid_exact}
use Rattle.plain_tables.specs.Tables.{with_thread_entry}
use Rattle.plain_tables.proofs.Lends.{changed-found}
use Rattle.plain_tables.proofs.threads.insert_thread.Goals as goal
use Rattle.plain_process.proofs.OfViews.Outcomes.{on_some, on_ok_then, on_err_then}

pub returns-in-Some-clause-ok : goal.returns-in-Some-clause-ok
returns-in-Some-clause-ok c = on_ok_then c.add_thread.result c.add_thread.ensures.ok (λ is.
    on_some c.in-Some.is (c.get_mut.follows.holds c.add_thread.new.self) ∙ ap (map.insert c.args.processes.now c.args.p) is
    ∙ changed-found c.args.processes.now c.args.p (with_thread_entry c.args.t) c.in-Some.process.now c.in-Some.ensures.value)

pub returns-in-Some-clause-err : goal.returns-in-Some-clause-err
returns-in-Some-clause-err c = on_err_then c.add_thread.result c.add_thread.ensures.err (λ same.
    on_some c.in-Some.is (c.get_mut.follows.holds c.add_thread.new.self) ∙ ap (map.insert c.args.processes.now c.args.p) same
    ∙ insert_same vpid_total vpid_exact c.args.processes.now c.args.p c.in-Some.process.now (sym c.in-Some.ensures.value))

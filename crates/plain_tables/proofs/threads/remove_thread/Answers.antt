use Rattle.std.proofs.Common.{ap, ◌∙◌}
use Rattle.std.specs.FinMap as map
use Rattle.plain_tables.specs.Tables.{without_thread_entry}
use Rattle.plain_tables.proofs.Lends.{changed-found}
use Rattle.plain_tables.proofs.threads.remove_thread.Goals as goal
use Rattle.plain_process.proofs.OfViews.Outcomes.{on_some}

pub returns-in-Some : goal.returns-in-Some
returns-in-Some c =
    on_some c.in-Some.is (c.get_mut.follows.holds (record c.in-Some.process.now { threads = c.remove.new.self }))
    ∙ ap (λ threads. map.insert c.args.processes.now c.args.p (record c.in-Some.process.now { threads = threads })) c.remove.ensures.removed
    ∙ changed-found c.args.processes.now c.args.p (without_thread_entry c.args.t) c.in-Some.process.now c.in-Some.ensures.value

use Rattle.std.proofs.Common.{ap, ◌∙◌}
use Rattle.std.specs.FinMap as map
use Rattle.proc_book.specs.Procs.{without_thread}
use Rattle.virt_ids.proofs.Lends.{changed-found}
use Rattle.proc_book.proofs.procs.end_thread_at.Goals as goal
use Rattle.views.proofs.Outcomes.{on_some}

pub returns-in-Some : goal.returns-in-Some
returns-in-Some c =
    on_some c.in-Some.is (c.get_mut.follows.holds c.end_thread.new.self) ∙ ap (map.insert c.args.processes.now c.args.p) c.end_thread.ensures
    ∙ changed-found c.args.processes.now c.args.p (without_thread c.args.t) c.in-Some.process.now c.in-Some.ensures.value

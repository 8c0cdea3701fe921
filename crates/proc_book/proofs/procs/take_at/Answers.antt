use Rattle.std.proofs.Common.{ap, ◌∙◌}
use Rattle.std.specs.FinMap as map
use Rattle.proc_book.specs.Processes.{after_take}
use Rattle.virt_ids.proofs.Lends.{changed-found}
use Rattle.proc_book.proofs.procs.take_at.Goals as goal
use Rattle.views.proofs.Outcomes.{on_some}

pub returns-in-Some-clause-taken : goal.returns-in-Some-clause-taken
returns-in-Some-clause-taken c =
    on_some c.in-Some.is (c.get_mut.follows.holds c.take.new.self) ∙ ap (map.insert c.args.processes.now c.args.p) c.take.ensures.taken
    ∙ changed-found c.args.processes.now c.args.p (after_take c.args.t c.args.s.0) c.in-Some.process.now c.in-Some.ensures.value

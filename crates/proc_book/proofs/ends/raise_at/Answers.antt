use Rattle.std.proofs.Common.{ap, ◌∙◌}
use Rattle.std.specs.FinMap as map
use Rattle.proc_book.specs.Processes.{raised}
use Rattle.virt_ids.proofs.Lends.{changed-found}
use Rattle.proc_book.proofs.ends.raise_at.Goals as goal
use Rattle.views.proofs.Outcomes.{on_some}

pub returns-in-Some : goal.returns-in-Some
returns-in-Some c =
    on_some c.in-Some.is (c.get_mut.follows.holds c.raise.new.self) ∙ ap (map.insert c.args.processes.now c.args.p) c.raise.ensures
    ∙ changed-found c.args.processes.now c.args.p (raised c.args.t c.args.s.0) c.in-Some.process.now c.in-Some.ensures.value

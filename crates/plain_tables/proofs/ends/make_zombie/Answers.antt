use Rattle.std.proofs.Common.{ap, ◌∙◌}
use Rattle.std.specs.FinMap as map
use Rattle.plain_tables.specs.Ends.{zombie}
use Rattle.plain_tables.proofs.Lends.{changed-found}
use Rattle.plain_tables.proofs.ends.make_zombie.Goals as goal
use Rattle.plain_process.proofs.OfViews.Outcomes.{on_some}

pub returns-in-Some : goal.returns-in-Some
returns-in-Some c =
    on_some c.in-Some.is (c.get_mut.follows.holds c.end.new.self) ∙ ap (map.insert c.args.processes.now c.args.p) c.end.ensures
    ∙ changed-found c.args.processes.now c.args.p (zombie c.args.status) c.in-Some.process.now c.in-Some.ensures.value

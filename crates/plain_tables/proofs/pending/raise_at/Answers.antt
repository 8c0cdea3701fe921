use Rattle.std.proofs.Common.{ap, ◌∙◌}
use Rattle.std.specs.FinMap as map
use Rattle.plain_tables.specs.Tables.{raised_at}
use Rattle.plain_tables.proofs.Lends.{changed-found}
use Rattle.plain_tables.proofs.pending.raise_at.Goals as goal
use Rattle.plain_process.proofs.OfViews.Outcomes.{on_some}

pub returns-in-Some : goal.returns-in-Some
returns-in-Some c =
    on_some c.in-Some.is (c.get_mut.follows.holds c.raise.new.self) ∙ ap (map.insert c.args.processes.now c.args.p) c.raise.ensures
    ∙ changed-found c.args.processes.now c.args.p (raised_at c.args.t c.args.s.0) c.in-Some.process.now c.in-Some.ensures.value

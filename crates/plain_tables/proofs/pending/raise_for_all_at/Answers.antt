use Rattle.std.proofs.Common.{ap, ◌∙◌}
use Rattle.std.specs.FinMap as map
use Rattle.plain_tables.specs.Tables.{raised_for_all}
use Rattle.plain_tables.proofs.Lends.{changed-found}
use Rattle.plain_tables.proofs.pending.raise_for_all_at.Goals as goal
use Rattle.plain_process.proofs.OfViews.Outcomes.{on_some}

pub returns-in-Some : goal.returns-in-Some
returns-in-Some c =
    on_some c.in-Some.is (c.get_mut.follows.holds c.raise_for_all.new.self) ∙ ap (map.insert c.args.processes.now c.args.p) c.raise_for_all.ensures
    ∙ changed-found c.args.processes.now c.args.p (raised_for_all c.args.s.0) c.in-Some.process.now c.in-Some.ensures.value

use Rattle.std.proofs.Common.{ap, ◌∙◌}
use Rattle.std.specs.FinMap as map
use Rattle.plain_tables.specs.Tables.{taken_from}
use Rattle.plain_tables.proofs.Lends.{changed-found}
use Rattle.plain_tables.proofs.pending.take_at.Goals as goal
use Rattle.plain_process.proofs.OfViews.Outcomes.{on_some}

pub returns-in-Some : goal.returns-in-Some
returns-in-Some c =
    on_some c.in-Some.is (c.get_mut.follows.holds c.take.new.self) ∙ ap (map.insert c.args.processes.now c.args.p) c.take.ensures
    ∙ changed-found c.args.processes.now c.args.p (taken_from c.args.t c.args.s.0) c.in-Some.process.now c.in-Some.ensures.value

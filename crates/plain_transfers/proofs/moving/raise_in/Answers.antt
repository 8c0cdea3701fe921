use Rattle.std.proofs.Common.{ap, ◌∙◌}
use Rattle.std.specs.FinMap as map
use Rattle.plain_machine.specs.OfPlainTables.Tables.{raised_at}
use Rattle.plain_machine.proofs.OfPlainTables.Lends.{changed-found}
use Rattle.views.proofs.Outcomes.{on_some, on_ok_then}
use Rattle.plain_transfers.proofs.moving.raise_in.Goals as goal

pub returns-in-Some : goal.returns-in-Some
returns-in-Some c = on_ok_then c.raise.result c.raise.ensures (λ is.
    on_some c.in-Some.is (c.get_mut.follows.holds c.raise.new.process) ∙ ap (map.insert c.args.processes.now c.args.p) is
    ∙ changed-found c.args.processes.now c.args.p (raised_at c.args.t c.args.s.0) c.in-Some.process.now c.in-Some.ensures.value)

use Rattle.plain_tables.proofs.pending.set_signals.Goals as goal
use Rattle.plain_process.proofs.OfViews.Outcomes.{on_some}

pub returns-in-Some : goal.returns-in-Some
returns-in-Some c = on_some c.in-Some.is (c.get_mut.follows.holds c.args.signals)

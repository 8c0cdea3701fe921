use Rattle.std.proofs.Common.{sym, subst}
use Rattle.std.specs.Prelude.{None}
use Rattle.host_tables.specs.OfPlainMachine.Channels.{close_side}
use Rattle.host_tables.specs.HandedOn.{Network}
use Rattle.host_tables.specs.Stands.{Stands}
use Rattle.host_descriptors.proofs.ClosedEnds.{end_closed}
use Rattle.host_descriptors.proofs.releasing.close_end.Goals as goal

pub returns : goal.returns
returns c g k st less =
    subst (λ (t : Network). Stands g None (record c.args.kernel.now { net = t })
    (close_side k c.args.conn c.args.side)) (sym c.close_end.ensures)
    (end_closed g c.args.kernel.now k st c.args.conn c.args.side less)

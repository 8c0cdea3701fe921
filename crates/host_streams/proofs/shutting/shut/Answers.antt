use Rattle.std.proofs.Common.{None, sym, subst}
use Rattle.plain_tables.specs.Tables.{Directions}
use Rattle.host_processes.specs.OfHostTables.Stands.{Stands}
use Rattle.host_streams.proofs.SocketRows.{shut_both}
use Rattle.host_streams.proofs.shutting.shut.Goals as goal

pub returns-clause-stands : goal.returns-clause-stands
returns-clause-stands c g k st =
    subst (λ (m : Directions). Stands g None c.stop_reading-2.new.kernel (record k { directions = m }))
    (sym (shut_both k.directions c.args.conn c.args.side c.args.how c.if-how-eq0.false c.if-how-eq1.false))
    (c.stop_reading-2.ensures.stands g _ (c.end-2.ensures.stands g k st))

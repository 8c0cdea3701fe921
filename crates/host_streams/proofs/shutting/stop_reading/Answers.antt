use Rattle.std.proofs.Common.{ℕ, None, sym, subst, arith}
use Rattle.plain_tables.specs.Closing.{without_reader}
use Rattle.plain_tables.specs.Objects.{dir}
use Rattle.plain_tables.specs.Tables.{changed_at}
use Rattle.wire_net.specs.Networks.{Network}
use Rattle.host_processes.specs.OfHostTables.Stands.{Stands}
use Rattle.host_streams.proofs.ShutEnds.{unread}
use Rattle.host_streams.proofs.shutting.stop_reading.Goals as goal

pub returns-clause-stands : goal.returns-clause-stands
returns-clause-stands c g k st =
    let real = c.args.kernel.now in
    let side = c.across.ensures in
    let d = dir c.args.conn c.across.result in
    subst (λ (s : ℕ). Stands g None (record real { net = c.stop_reading.new.self })
    (record k { directions = changed_at k.directions (dir c.args.conn s) without_reader })) side
    (subst (λ (w : Network). Stands g None (record real { net = w })
    (record k { directions = changed_at k.directions d without_reader })) (sym c.stop_reading.ensures)
    (unread g real k st d (omega (arith, side))))

use Rattle.std.proofs.Common.{None, sym, subst, arith}
use Rattle.plain_tables.specs.Closing.{with_end}
use Rattle.plain_tables.specs.Objects.{dir}
use Rattle.plain_tables.specs.Tables.{changed_at}
use Rattle.wire_net.specs.Networks.{Network}
use Rattle.host_processes.specs.OfHostTables.Stands.{Stands}
use Rattle.host_streams.proofs.ShutEnds.{no_side, ended}
use Rattle.host_streams.proofs.shutting.end.Goals as goal

pub returns-then-side-gt1-clause-stands : goal.returns-then-side-gt1-clause-stands
returns-then-side-gt1-clause-stands c g k st =
    let far = c.if-side-gt1.true in
    no_side g c.args.kernel.now k st (dir c.args.conn c.args.side) (omega (arith, far)) with_end

pub returns-clause-stands : goal.returns-clause-stands
returns-clause-stands c g k st =
    let near = c.if-side-gt1.false in
    let d = dir c.args.conn c.args.side in
    subst (λ (w : Network). Stands g None (record c.args.kernel.now { net = w })
    (record k { directions = changed_at k.directions d with_end })) (sym c.end.ensures)
    (ended g c.args.kernel.now k st d (omega (arith, near)))

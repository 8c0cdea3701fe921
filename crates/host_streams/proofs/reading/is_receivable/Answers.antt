use Rattle.std.proofs.Common.{◌-◌, ap, ◌∙◌, arith}
use Rattle.plain_tables.specs.Objects.{dir}
use Rattle.host_streams.specs.Lanes.{can_receive}
use Rattle.host_streams.proofs.Readiness.{receivable_told}
use Rattle.host_streams.proofs.reading.is_receivable.Goals as goal

pub returns : goal.returns
returns c g k st =
    let real = c.args.kernel.now in
    c.can_receive.ensures
    ∙ ap (λ side. can_receive real.net (dir c.args.conn side) c.args.count) c.across.ensures
    ∙ receivable_told g real k st (dir c.args.conn (1 - c.args.side)) (omega arith) c.args.count

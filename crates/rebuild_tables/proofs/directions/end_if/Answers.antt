use Rattle.std.proofs.Common.{refl}
use Rattle.rebuild_tables.specs.Steps.{ended_if}
use Rattle.rebuild_tables.proofs.FilledDirections.{kept_if}
use Rattle.rebuild_tables.proofs.directions.end_if.Goals as goal

pub returns-then-not-is_ended : goal.returns-then-not-is_ended
returns-then-not-is_ended c =
    kept_if c.args.net.now c.args.d ended_if (λ y. refl) c.args.is_ended c.if-not-is_ended.true

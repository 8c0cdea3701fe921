use Rattle.std.proofs.Common.{refl}
use Rattle.rebuild_tables.specs.Steps.{unread_if}
use Rattle.rebuild_tables.proofs.FilledDirections.{kept_if}
use Rattle.rebuild_tables.proofs.directions.stop_reading_if.Goals as goal

pub returns-then-not-is_unread : goal.returns-then-not-is_unread
returns-then-not-is_unread c =
    kept_if c.args.net.now c.args.d unread_if (λ y. refl) c.args.is_unread c.if-not-is_unread.true

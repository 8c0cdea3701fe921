use Rattle.std.proofs.Common.{List, ℕ, ap, ◌∙◌}
use Rattle.rebuild_tables.specs.Steps.{with_bytes, with_direction}
use Rattle.rebuild_tables.proofs.FilledDirections.{filled_told}
use Rattle.rebuild_tables.proofs.directions.fill_as.Goals as goal

pub returns : goal.returns
returns c =
    let t = c.args.net.now in
    filled_told c.args.d c.args.direction.now c.requires.whole t c.put_bytes.new.net c.end_if.new.net
    c.stop_reading_if.new.net
    (c.put_bytes.ensures
    ∙ ap (λ (bytes : List ℕ). record t {
      channels = with_direction t.channels c.args.d (with_bytes bytes);
    }) c.as_slice.ensures)
    c.end_if.ensures c.stop_reading_if.ensures

use Rattle.std.proofs.Common.{ap, ◌∙◌, ◌+◌}
use Rattle.std.specs.Prelude.{slice_index}
use Rattle.wire_channels.specs.Channels.{direction_at}
use Rattle.host_streams.proofs.Readiness.{standing_count}
use Rattle.host_streams.proofs.lanes.standing_at.Goals as goal

pub returns : goal.returns
returns c =
    ap (λ counts. slice_index counts 0 + slice_index counts 1 + slice_index counts 2)
    c.counts-counts.ensures.counts
    ∙ standing_count (direction_at c.args.net.now.channels c.args.d)

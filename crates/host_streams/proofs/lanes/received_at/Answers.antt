use Rattle.std.proofs.Common.{sym, ap, ◌∙◌, subst, ◌≤◌}
use Rattle.wire_channels.specs.Channels.{direction_at}
use Rattle.std.specs.Prelude.{slice_index}
use Rattle.host_streams.proofs.Readiness.{received_count, received_few}
use Rattle.host_streams.proofs.lanes.received_at.Goals as goal

pub returns-clause-count : goal.returns-clause-count
returns-clause-count c =
    ap (λ counts. slice_index counts 2) c.counts.ensures.counts
    ∙ received_count (direction_at c.args.net.now.channels c.args.d)

pub returns-clause-few : goal.returns-clause-few
returns-clause-few c =
    subst (λ n. n ≤ 65536)
    (sym (ap (λ counts. slice_index counts 2) c.counts.ensures.counts
    ∙ received_count (direction_at c.args.net.now.channels c.args.d)))
    (received_few (direction_at c.args.net.now.channels c.args.d) c.counts.ensures.within)

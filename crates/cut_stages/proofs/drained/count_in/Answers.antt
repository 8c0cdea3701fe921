use Rattle.std.proofs.Common.{◌≤◌, length, sym}
use Rattle.wire_channels.specs.declared.limits.TheConstants.{QUEUE_LIMIT}
use Rattle.wire_net.proofs.ListsOn.{one_listed}
use Rattle.cut_stages.proofs.drained.count_in.Goals as goal

pub length_of-requires : goal.length_of-requires
length_of-requires c =
    one_listed (λ list. length list.bytes ≤ QUEUE_LIMIT) c.args.d c.args.lists.now c.in-Some.list.now
    (sym c.in-Some.ensures) c.requires

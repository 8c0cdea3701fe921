use Rattle.std.specs.FinMap as map
use Rattle.conn_table.specs.Conns.{is_above}
use Rattle.leader_vote.proofs.Walks.{count_of}
use Rattle.seen_kernel.proofs.SeenChannels.{ChannelsFront}
use Rattle.seen_kernel.proofs.channels.seen_channels.Given as goal

abbrev pub invariant-loop-id : goal.invariant-loop-id
invariant-loop-id l = ChannelsFront l.conns.conns l.seen l.above

abbrev pub decreases-loop-id : goal.decreases-loop-id
decreases-loop-id l = count_of (is_above l.above) (map.keys l.conns.conns)

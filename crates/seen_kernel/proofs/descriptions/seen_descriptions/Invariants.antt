use Rattle.std.specs.FinMap as map
use Rattle.fd_tables.specs.Parts.{is_after}
use Rattle.leader_vote.proofs.Walks.{count_of}
use Rattle.seen_kernel.proofs.SeenDescriptions.{DescriptionsTo}
use Rattle.seen_kernel.proofs.descriptions.seen_descriptions.Given as goal

abbrev pub invariant-loop-id : goal.invariant-loop-id
invariant-loop-id l = DescriptionsTo l.ids l.conns.names l.book l.owners l.seen l.above

abbrev pub decreases-loop-id : goal.decreases-loop-id
decreases-loop-id l = count_of (is_after l.above) (map.keys l.book.descriptions)

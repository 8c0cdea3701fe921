use Rattle.std.specs.FinMap as map
use Rattle.fd_tables.specs.Parts.{is_after}
use Rattle.leader_vote.proofs.Walks.{count_of}
use Rattle.leader_vote.proofs.KeptOwners.{ArePut}
use Rattle.leader_vote.proofs.owners.put_owners.Given as goal

abbrev pub invariant-loop-id : goal.invariant-loop-id
invariant-loop-id l = ArePut l.owners l.initial.book l.book l.above

abbrev pub decreases-loop-id : goal.decreases-loop-id
decreases-loop-id l = count_of (is_after l.above) (map.keys l.initial.book.descriptions)

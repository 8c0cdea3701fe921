use Rattle.std.specs.FinMap as map
use Rattle.conn_table.specs.Conns.{is_above}
use Rattle.leader_vote.proofs.Walks.{count_of}
use Rattle.leader_vote.proofs.Listing.{AreAbove}
use Rattle.leader_vote.proofs.directions.list_dirs.Given as goal

abbrev pub invariant-loop-conn : goal.invariant-loop-conn
invariant-loop-conn l = AreAbove l.conns.conns l.dirs.items l.above

abbrev pub decreases-loop-conn : goal.decreases-loop-conn
decreases-loop-conn l = count_of (is_above l.above) (map.keys l.conns.conns)

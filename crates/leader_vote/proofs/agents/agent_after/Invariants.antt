use Rattle.std.specs.FinMap as map
use Rattle.fd_tables.specs.Parts.{is_after}
use Rattle.leader_vote.proofs.Walks.{count_of}
use Rattle.leader_vote.proofs.Acting.{AreOthers}
use Rattle.leader_vote.proofs.agents.agent_after.Given as goal

abbrev pub invariant-loop-id : goal.invariant-loop-id
invariant-loop-id l = AreOthers l.book l.net.listeners l.conn l.side l.fn.after l.above

abbrev pub decreases-loop-id : goal.decreases-loop-id
decreases-loop-id l = count_of (is_after l.above) (map.keys l.book.descriptions)

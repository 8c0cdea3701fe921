use Rattle.std.specs.FinMap as map
use Rattle.proc_book.specs.Procs.{is_above}
use Rattle.leader_vote.proofs.Walks.{count_of}
use Rattle.leader_vote.proofs.Voting.{AreListed}
use Rattle.leader_vote.proofs.voters.list_voters.Given as goal

abbrev pub invariant-loop-r : goal.invariant-loop-r
invariant-loop-r l = AreListed l.procs.processes l.ids.virts l.voters l.above

abbrev pub decreases-loop-r : goal.decreases-loop-r
decreases-loop-r l = count_of (is_above l.above) (map.keys l.procs.processes)

use Rattle.std.proofs.Common.{◌-◌}
use Rattle.fd_tables.specs.Numbers.{first_above}
use Rattle.leader_vote.proofs.VotesCast.{IsVoting}
use Rattle.leader_vote.proofs.election.vote.Given as goal

abbrev pub invariant-loop-fd : goal.invariant-loop-fd
invariant-loop-fd l = IsVoting l.initial.book l.book l.p (first_above l.above)

abbrev pub decreases-loop-fd : goal.decreases-loop-fd
decreases-loop-fd l = 256 - first_above l.above

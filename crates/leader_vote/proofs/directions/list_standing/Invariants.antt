use Rattle.std.proofs.Common.{◌≡◌, map as each, take}
use Rattle.leader_vote.specs.Directions.{standing_of}
use Rattle.leader_vote.proofs.directions.list_standing.Given as goal

abbrev pub invariant-loop-d : goal.invariant-loop-d
invariant-loop-d l = l.list.items ≡ each (standing_of l.net.channels) (take l.d-index l.dirs)

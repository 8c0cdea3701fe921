use Rattle.std.proofs.Common.{◌≡◌, map as each, take}
use Rattle.leader_vote.specs.Directions.{missing_of}
use Rattle.leader_vote.proofs.directions.list_missing.Given as goal

abbrev pub invariant-loop-d : goal.invariant-loop-d
invariant-loop-d l = l.list.items ≡ each (missing_of l.net.channels) (take l.d-index l.dirs)

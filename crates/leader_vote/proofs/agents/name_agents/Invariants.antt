use Rattle.std.proofs.Common.{◌≡◌, map as each, take, length}
use Rattle.std.specs.Prelude.{All}
use Rattle.leader_vote.specs.Agents.{place_of, IsActedFor}
use Rattle.leader_vote.proofs.agents.name_agents.Given as goal

abbrev pub invariant-loop-d : goal.invariant-loop-d
invariant-loop-d l = record {
  room : l.ends.room ≡ length l.dirs;
  places : each place_of l.ends.items ≡ take l.d-index l.dirs;
  agents : All (IsActedFor l.book l.net.listeners) l.ends.items;
}

use Rattle.std.proofs.Common.{◌≡◌}
use Rattle.rebuild_system.specs.Making.{IsListened, AreReached, is_done_waiting}
use Rattle.rebuild_system.proofs.Walks.{IsWalk}
use Rattle.rebuild_system.proofs.listeners.add_listeners.Given as goal

abbrev pub invariant-loop-a : goal.invariant-loop-a
invariant-loop-a l = record {
  walk : IsWalk l.kernel.listeners l.a-iterator;
  made : IsListened l.hosts l.kernel l.a-iterator l.ids l.net;
  reached : AreReached l.hosts l.kernel (is_done_waiting l.kernel l.a-iterator) l.directory;
  pids : l.ids.pids ≡ l.initial.ids.pids;
  virts : l.ids.virts ≡ l.initial.ids.virts;
}

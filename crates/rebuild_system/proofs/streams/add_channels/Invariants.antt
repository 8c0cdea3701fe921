use Rattle.std.proofs.Common.{◌≡◌}
use Rattle.rebuild_system.specs.Making.{AreFilled, AreReached, is_done}
use Rattle.rebuild_system.proofs.Walks.{IsWalk}
use Rattle.rebuild_system.proofs.streams.add_channels.Given as goal

abbrev pub invariant-loop-id : goal.invariant-loop-id
invariant-loop-id l = record {
  walk : IsWalk l.kernel.channels l.id-iterator;
  kept : l.net ≡ record l.initial.net { channels = l.net.channels };
  made : AreFilled l.kernel (is_done l.kernel l.id-iterator) l.net.channels;
  reached : AreReached l.hosts l.kernel (is_done l.kernel l.id-iterator) l.directory;
}

use Rattle.std.proofs.Common.{◌≡◌, take}
use Rattle.virt_ids.specs.Changes.{at_key}
use Rattle.rebuild_system.specs.Steps.{is_among, with_queue, AreJoined, AreFound}
use Rattle.rebuild_system.proofs.listeners.fill_queue.Given as goal

abbrev pub invariant-loop-id : goal.invariant-loop-id
invariant-loop-id l = record {
  base : l.net.port_base ≡ l.initial.net.port_base;
  listeners : l.net.listeners ≡ at_key l.initial.net.listeners l.at (with_queue (take l.id-index l.queue));
  channels : AreJoined l.kernel (is_among (take l.id-index l.queue)) l.initial.net.channels l.net.channels;
  found : AreFound l.at (is_among (take l.id-index l.queue)) l.initial.directory l.directory;
}

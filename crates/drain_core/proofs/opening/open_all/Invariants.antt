use Rattle.std.proofs.Common.{◌≡◌, ◌≤◌, ◌++◌, map as each, take, drop}
use Rattle.std.specs.Prelude.{All}
use Rattle.wire_channels.specs.declared.limits.TheConstants.{QUEUE_LIMIT}
use Rattle.drain_core.specs.Openings.{opened}
use Rattle.drain_core.proofs.ComingNotes.{AreToCome}
use Rattle.drain_core.proofs.opening.open_all.Given as goal

abbrev pub invariant-loop-notes : goal.invariant-loop-notes
invariant-loop-notes l = record {
  notes : l.all ≡ each (opened l.net.channels l.ends) (take l.notes-index l.initial.all) ++ drop l.notes-index l.initial.all;
  few : All (λ x. x.count ≤ QUEUE_LIMIT) (each (opened l.net.channels l.ends) (take l.notes-index l.initial.all));
  coming : AreToCome l.rest l.ends l.last (drop l.notes-index l.initial.all);
}

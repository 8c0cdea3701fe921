use Rattle.std.proofs.Common.{◌≡◌, ◌++◌, take, drop}
use Rattle.drain_core.specs.Drains.{notes_after, channels_after, moves_any}
use Rattle.drain_core.proofs.OneStep.{with_channels}
use Rattle.drain_core.proofs.stepping.step_all.Given as goal

abbrev pub invariant-loop-notes : goal.invariant-loop-notes
invariant-loop-notes l = record {
  notes : l.all ≡ notes_after l.agent l.initial.net.channels (take l.notes-index l.initial.all) ++ drop l.notes-index l.initial.all;
  net : l.net ≡ with_channels l.initial.net (channels_after l.agent (take l.notes-index l.initial.all) l.initial.net.channels);
  moved : l.moved ≡ moves_any l.agent l.initial.net.channels (take l.notes-index l.initial.all);
}

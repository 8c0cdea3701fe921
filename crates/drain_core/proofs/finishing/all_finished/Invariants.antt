use Rattle.std.proofs.Common.{◌≡◌, true, take}
use Rattle.drain_core.specs.Drains.{is_done}
use Rattle.drain_core.proofs.finishing.all_finished.Given as goal

abbrev pub invariant-loop-notes : goal.invariant-loop-notes
invariant-loop-notes l = is_done l.net.channels (take l.notes-index l.all) ≡ true

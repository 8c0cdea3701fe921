use Rattle.std.proofs.Common.{◌≡◌, take}
use Rattle.disk_folder.specs.History.{reads_after}
use Rattle.disk_folder.proofs.replay.replay.Given as goal

abbrev pub invariant-loop-call : goal.invariant-loop-call
invariant-loop-call l = l.files ≡ reads_after l.initial.files (take l.call-index l.calls)

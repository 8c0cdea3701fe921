use Rattle.std.proofs.Common.{◌≡◌, take}
use Rattle.std.specs.Prelude.{fold}
use Rattle.disk_folder.specs.History.{after_filled}
use Rattle.disk_folder.proofs.replay.replay_filled.Given as goal

abbrev pub invariant-loop-call : goal.invariant-loop-call
invariant-loop-call l = l.files ≡ fold after_filled l.initial.files (take l.call-index l.calls)

use Rattle.std.proofs.Common.{◌≡◌, ◌≤◌, take}
use Rattle.disk_folder.specs.History.{settled_count}
use Rattle.disk_folder.proofs.replay.settled_count.Given as goal

abbrev pub invariant-loop-i : goal.invariant-loop-i
invariant-loop-i l = record { count : l.count ≡ settled_count (take l.i l.calls); within : l.count ≤ l.i }

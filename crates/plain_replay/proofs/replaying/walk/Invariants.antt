use Rattle.std.proofs.Common.{◌≡◌, take}
use Rattle.std.specs.Prelude.{Some}
use Rattle.plain_machine.specs.Runs.{run}
use Rattle.plain_replay.proofs.replaying.walk.Given as goal

abbrev pub invariant-loop-i : goal.invariant-loop-i
invariant-loop-i l = run l.initial.g.value (take l.i l.trace) ≡ Some l.g.value

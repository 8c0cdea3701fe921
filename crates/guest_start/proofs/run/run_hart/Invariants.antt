use Rattle.std.proofs.Common.{◌≤◌, ◌-◌}
use Rattle.guest_start.specs.Running.{HasRun}
use Rattle.guest_start.proofs.run.run_hart.Given as goal

abbrev pub invariant-loop-count : goal.invariant-loop-count
invariant-loop-count l = record {
  within : l.count ≤ l.quantum;
  run : HasRun l.count l.initial.hart l.initial.ram l.hart l.ram;
}

abbrev pub decreases-loop-count : goal.decreases-loop-count
decreases-loop-count l = l.quantum - l.count

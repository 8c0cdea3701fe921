use Rattle.std.proofs.Common.{◌≡◌, ℕ, ◌-◌, ◌≤◌}
use Rattle.virt_ids.specs.Changes.{at_key}
use Rattle.rebuild_processes.specs.Making.{with_set}
use Rattle.rebuild_processes.proofs.SignalBits.{IsPart}
use Rattle.rebuild_processes.proofs.signals.raise_set.Given as goal

abbrev pub invariant-loop-s : goal.invariant-loop-s
invariant-loop-s l = record {
  made : ℕ;
  part : IsPart l.set (l.s - 1) made;
  positive : 1 ≤ l.s;
  so_far : l.procs ≡ record l.fn.procs { processes = at_key l.fn.procs.processes l.r (with_set l.t made) };
}

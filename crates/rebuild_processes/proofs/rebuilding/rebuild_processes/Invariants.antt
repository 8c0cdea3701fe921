use Rattle.rebuild_processes.proofs.AllProcesses.{IsRebuilt}
use Rattle.rebuild_processes.proofs.rebuilding.rebuild_processes.Given as goal

abbrev pub invariant-loop-p : goal.invariant-loop-p
invariant-loop-p l = IsRebuilt l.hosts l.kernel l.p-iterator l.m

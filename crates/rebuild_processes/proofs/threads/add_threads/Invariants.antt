use Rattle.rebuild_processes.proofs.AllThreads.{IsWalked}
use Rattle.rebuild_processes.proofs.threads.add_threads.Given as goal

abbrev pub invariant-loop-t : goal.invariant-loop-t
invariant-loop-t l = IsWalked l.hosts l.kernel l.p l.r l.process l.fn.m.procs.next l.t-iterator l.m

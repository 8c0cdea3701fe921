use Rattle.std.specs.FinMap as map
use Rattle.proc_book.specs.Procs.{is_above}
use Rattle.leader_vote.proofs.Walks.{count_of}
use Rattle.seen_kernel.proofs.SeenProcesses.{ProcessesTo}
use Rattle.seen_kernel.proofs.processes.seen_processes.Given as goal

abbrev pub invariant-loop-r : goal.invariant-loop-r
invariant-loop-r l = ProcessesTo l.ids l.procs l.seen l.above

abbrev pub decreases-loop-r : goal.decreases-loop-r
decreases-loop-r l = count_of (is_above l.above) (map.keys l.procs.processes)

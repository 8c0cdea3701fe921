use Rattle.std.specs.Prelude.{Some}
use Rattle.std.specs.FinMap as map
use Rattle.views.specs.NumberMap.{is_above}
use Rattle.leader_vote.proofs.Walks.{count_of}
use Rattle.seen_kernel.specs.Processes.{threads_in}
use Rattle.seen_kernel.proofs.SeenThreads.{ThreadsTo}
use Rattle.seen_kernel.proofs.processes.seen_threads.Given as goal

abbrev pub invariant-loop-number : goal.invariant-loop-number
invariant-loop-number l = ThreadsTo l.ids l.procs l.r l.threads l.above

abbrev pub decreases-loop-number : goal.decreases-loop-number
decreases-loop-number l =
    count_of (is_above (Some l.above)) (map.keys (threads_in (map.get l.procs.processes l.r)))

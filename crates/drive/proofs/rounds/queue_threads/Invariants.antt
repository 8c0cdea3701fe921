use Rattle.checkpointer.specs.HandedOn.{user_at}
use Rattle.drive.proofs.Queueing.{IsQueued, left_above}
use Rattle.drive.proofs.Threads.{threads_of}
use Rattle.drive.proofs.rounds.queue_threads.Given as goal

abbrev pub invariant-loop-t : goal.invariant-loop-t
invariant-loop-t l = IsQueued (threads_of (user_at l.computation l.p)) l.above l.queue

abbrev pub decreases-loop-t : goal.decreases-loop-t
decreases-loop-t l = left_above (threads_of (user_at l.computation l.p)) l.above

use Rattle.std.specs.FinMap as map
use Rattle.proc_book.specs.Procs.{is_above}
use Rattle.leader_vote.proofs.Walks.{count_of}
use Rattle.seen_kernel.proofs.SeenDescriptors.{DescriptorsTo}
use Rattle.seen_kernel.proofs.descriptors.seen_descriptors.Given as goal

abbrev pub invariant-loop-r : goal.invariant-loop-r
invariant-loop-r l = DescriptorsTo l.ids l.procs l.book l.seen l.above

abbrev pub decreases-loop-r : goal.decreases-loop-r
decreases-loop-r l = count_of (is_above l.above) (map.keys l.procs.processes)

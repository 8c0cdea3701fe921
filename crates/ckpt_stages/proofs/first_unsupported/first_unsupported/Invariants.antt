use Rattle.std.specs.FinMap as map
use Rattle.proc_book.specs.Procs.{is_above}
use Rattle.leader_vote.proofs.Walks.{count_of}
use Rattle.ckpt_stages.proofs.FirstOnes.{AreLeast}
use Rattle.ckpt_stages.proofs.first_unsupported.first_unsupported.Given as goal

abbrev pub invariant-loop-r : goal.invariant-loop-r
invariant-loop-r l = AreLeast l.system.kernel.book l.system.ids.virts l.system.kernel.procs.processes
    l.least l.above

abbrev pub decreases-loop-r : goal.decreases-loop-r
decreases-loop-r l = count_of (is_above l.above) (map.keys l.system.kernel.procs.processes)

use Rattle.std.specs.FinMap as map
use Rattle.host_processes.proofs.TakenBack.{IsBack}
use Rattle.host_processes.proofs.forking.start_child.Given as goal

abbrev pub invariant-loop : goal.invariant-loop
invariant-loop l = IsBack l.fn.book l.book l.fn.parent l.child

abbrev pub decreases-loop : goal.decreases-loop
decreases-loop l = map.len l.book.descriptors

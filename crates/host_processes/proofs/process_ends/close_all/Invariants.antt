use Rattle.host_descriptors.specs.OfHostTables.Serves.{Through}
use Rattle.host_processes.proofs.LowestCloses.{IsClosedBelow}
use Rattle.host_processes.proofs.process_ends.close_all.Given as goal

abbrev pub invariant-loop : goal.invariant-loop
invariant-loop l = Through l.fn.kernel l.who (λ g k p. IsClosedBelow g l.kernel k p l.counter)

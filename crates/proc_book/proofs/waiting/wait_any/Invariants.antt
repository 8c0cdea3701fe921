use Rattle.std.proofs.Common.{◌≡◌}
use Rattle.std.specs.FinMap as map
use Rattle.proc_book.specs.Procs.{wait_any}
use Rattle.proc_book.proofs.Waits.{wait_onto}
use Rattle.proc_book.proofs.waiting.wait_any.Given as goal

abbrev pub invariant-loop-r : goal.invariant-loop-r
invariant-loop-r l = wait_onto l.p l.r-iterator.iter l.found ≡ wait_any l.p (map.entries l.processes)

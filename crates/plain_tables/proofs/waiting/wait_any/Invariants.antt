use Rattle.std.proofs.Common.{◌≡◌}
use Rattle.std.specs.FinMap as map
use Rattle.plain_tables.specs.Waits.{wait_any}
use Rattle.plain_tables.proofs.WaitOrder.{wait_onto}
use Rattle.plain_tables.proofs.waiting.wait_any.Given as goal

abbrev pub invariant-loop-q : goal.invariant-loop-q
invariant-loop-q l = wait_onto l.p l.q-iterator.iter l.found ≡ wait_any l.p (map.entries l.processes)

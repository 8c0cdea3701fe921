use Rattle.std.proofs.Common.{◌<◌, ◌≤◌, ℕ}
use Rattle.std.specs.Prelude.{IsSome}
use Rattle.fd_tables.specs.Tables.{at_place}
use Rattle.fd_tables.proofs.table.Table.lowest_free.Given as goal

abbrev pub invariant-loop-fd : goal.invariant-loop-fd
invariant-loop-fd l = (q : ℕ) → l.fn.from ≤ q → q < l.fd → IsSome (at_place l.self q)

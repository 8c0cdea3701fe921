use Rattle.std.proofs.Common.{◌≡◌, ◌≤◌}
use Rattle.fd_tables.specs.Tables.{free_places}
use Rattle.fd_tables.proofs.table.Table.free.Given as goal

abbrev pub invariant-loop-fd : goal.invariant-loop-fd
invariant-loop-fd l = (l.count ≡ free_places l.self l.fd) × (l.count ≤ l.fd)

use Rattle.std.proofs.Common.{take}
use Rattle.conn_table.specs.Unsupported.{IsLeastUnsupported}
use Rattle.conn_table.proofs.unsupported.least_unsupported.Given as goal

abbrev pub invariant-loop-row : goal.invariant-loop-row
invariant-loop-row l = IsLeastUnsupported (take l.row-index l.rows) l.least

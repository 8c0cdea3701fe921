use Rattle.std.proofs.Common.{◌≡◌, ◌++◌}
use Rattle.fd_tables.proofs.Holders.{holders_in}
use Rattle.fd_tables.proofs.tables.Tables.holders.Given as goal

-- what is listed stands before what is left
abbrev pub invariant-loop-p : goal.invariant-loop-p
invariant-loop-p l = l.list.items ++ holders_in l.id l.p-iterator ≡ holders_in l.id l.initial.p-iterator

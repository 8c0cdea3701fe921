use Rattle.std.proofs.Common.{◌≡◌, ◌++◌}
use Rattle.conn_maps.specs.OfSysAbi.Names.{by_name}
use Rattle.id_maps.proofs.by_name.duplicate_names.Given as goal

-- what has been copied stands after what is left
abbrev pub invariant-loop-name : goal.invariant-loop-name
invariant-loop-name g l = by_name l.name-iterator.iter ++ by_name l.copy.entries ≡ by_name l.names.entries

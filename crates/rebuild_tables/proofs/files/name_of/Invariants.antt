use Rattle.sys_abi.specs.Names.{by_name}
use Rattle.rebuild_tables.proofs.FileNames.{IsSought}
use Rattle.rebuild_tables.proofs.files.name_of.Given as goal

abbrev pub invariant-loop-name : goal.invariant-loop-name
invariant-loop-name l = IsSought l.names l.number (by_name l.name-iterator)

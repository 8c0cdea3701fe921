use Rattle.std.specs.FinMap as map
use Rattle.vfs_files.proofs.Inverses.{inverse-same, inverse-empty}
use Rattle.vfs_files.proofs.names.NameTable.new.Goals as goal

pub invariant_of-result : goal.invariant_of-result
invariant_of-result c = inverse-same map.empty c.new.result map.empty c.new-2.result c.new.ensures c.new-2.ensures inverse-empty

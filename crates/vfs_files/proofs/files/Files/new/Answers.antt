use Rattle.vfs_files.proofs.Kept.{kept-new}
use Rattle.vfs_files.proofs.files.Files.new.Goals as goal

pub invariant_of-result : goal.invariant_of-result
invariant_of-result c = kept-new c.new.result c.new-2.result c.new.ensures c.new-2.ensures

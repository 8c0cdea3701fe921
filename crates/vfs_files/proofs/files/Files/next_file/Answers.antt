use Rattle.std.proofs.Common.{subst}
use Rattle.vfs_files.specs.FileTable.{FileTable, AllBelow}
use Rattle.vfs_files.proofs.files.Files.next_file.Goals as goal

pub returns-clause-above : goal.returns-clause-above
returns-clause-above c = subst (λ (t : FileTable). AllBelow t.files c.self.inside.next_file) c.self.view_is c.self.invariant.below

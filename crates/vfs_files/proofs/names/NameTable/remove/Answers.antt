use Rattle.std.proofs.Common.{sym}
use Rattle.vfs_files.proofs.Inverses.{inverse-same, inverse-remove_name}
use Rattle.vfs_files.proofs.names.NameTable.remove.Goals as goal

pub invariant_of-self : goal.invariant_of-self
invariant_of-self c =
    inverse-same _ c.remove_both.new.files _ c.remove_both.new.names c.remove_both.ensures.files c.remove_both.ensures.names
    (inverse-remove_name c.self.inside.files c.self.inside.names c.args.name.now c.remove_both.result c.self.invariant (sym c.remove_both.ensures.file))

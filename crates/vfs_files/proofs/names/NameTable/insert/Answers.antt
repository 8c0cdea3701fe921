use Rattle.vfs_files.proofs.Inverses.{inverse-insert_both}
use Rattle.vfs_files.proofs.names.NameTable.insert.Goals as goal

pub invariant_of-self : goal.invariant_of-self
invariant_of-self c =
    let done = c.insert_both.ensures in
    inverse-insert_both c.insert_both.result c.self.inside.files c.args.self.now c.insert_both.new.files c.self.inside.names c.insert_both.new.names c.args.name.now c.args.file c.self.invariant c.self.view_is c.requires.new c.requires.unnamed done.files done.names done.files_same done.names_same

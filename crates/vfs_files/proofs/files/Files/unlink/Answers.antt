use Rattle.vfs_files.proofs.Kept.{kept-unlink}
use Rattle.vfs_files.proofs.files.Files.unlink.Goals as goal

pub invariant_of-self : goal.invariant_of-self
invariant_of-self c =
    let all = c.self.inside in
    kept-unlink all.names c.remove.new.self all.files all.next_file all.total c.args.name.now c.self.invariant c.remove.ensures.removed

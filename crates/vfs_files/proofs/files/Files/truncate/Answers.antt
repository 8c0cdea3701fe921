use Rattle.vfs_files.proofs.Kept.{kept-truncate}
use Rattle.vfs_files.proofs.files.Files.truncate.Goals as goal

pub invariant_of-self : goal.invariant_of-self
invariant_of-self c =
    let all = c.self.inside in
    kept-truncate all.names all.files c.empty_file.new.files all.next_file all.total c.args.file c.empty_file.result c.self.invariant c.empty_file.ensures.files c.empty_file.ensures.sum

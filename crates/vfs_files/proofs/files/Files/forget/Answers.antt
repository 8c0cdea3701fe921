use Rattle.vfs_files.proofs.Kept.{kept-forget}
use Rattle.vfs_files.proofs.files.Files.forget.Goals as goal

pub invariant_of-self : goal.invariant_of-self
invariant_of-self c =
    let all = c.self.inside in
    kept-forget all.names c.forget.new.self all.files c.remove_file.new.files all.next_file all.total c.args.file c.remove_file.result c.self.invariant c.forget.ensures c.remove_file.ensures.files c.remove_file.ensures.sum

use Rattle.std.proofs.Common.{ap, ◌∙◌, arith}
use Rattle.std.specs.FinMap as map
use Rattle.vfs_files.proofs.Kept.{nameless, kept-made}
use Rattle.vfs_files.proofs.files.Files.make_file.Goals as goal

pub add_file-requires-clause-unnamed : goal.add_file-requires-clause-unnamed
add_file-requires-clause-unnamed c =
    let all = c.self.inside in
    nameless all.names all.files all.next_file all.total all.next_file c.self.invariant c.self.invariant.below

pub invariant_of-self-2 : goal.invariant_of-self-2
invariant_of-self-2 c =
    let all = c.self.inside in
    let done = c.in_ok-add_file.ensures in
    kept-made all.names c.add_file.new.names all.files c.add_file.new.files all.next_file all.total c.args.name.now c.self.invariant done.names (done.files ∙ ap (map.insert all.files all.next_file) c.new-empty.ensures) (omega arith)

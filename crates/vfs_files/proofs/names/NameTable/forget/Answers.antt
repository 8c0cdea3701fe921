use Rattle.std.proofs.Common.{refl, ap, ◌∙◌}
use Rattle.std.specs.FinMap as map
use Rattle.vfs_files.specs.Names.{without_file}
use Rattle.vfs_files.proofs.Inverses.{inverse-same, inverse-forget, remove_name_of}
use Rattle.vfs_files.proofs.names.NameTable.forget.Goals as goal

pub invariant_of-self : goal.invariant_of-self
invariant_of-self c =
    let files = c.self.inside.files in
    let names = c.self.inside.names in
    inverse-same _ c.forget_both.new.files _ c.forget_both.new.names c.forget_both.ensures.files c.forget_both.ensures.names
    (inverse-forget files names c.args.file (map.get names c.args.file) c.self.invariant refl)

pub returns : goal.returns
returns c =
    let names = c.self.inside.names in
    c.forget_both.ensures.files
    ∙ remove_name_of c.self.inside.files names c.args.file (map.get names c.args.file) c.self.invariant refl
    ∙ ap (λ m. without_file m c.args.file) c.self.view_is

use Rattle.std.proofs.Common.{sym, subst, ◌∙◌}
use Rattle.std.proofs.lemmas.Option.{same_Some}
use Rattle.vfs_files.specs.Names.{Names, IsNamedOnce}
use Rattle.vfs_files.proofs.names.NameTable.whole.Goals as goal

pub returns : goal.returns
returns c =
    let leads = c.self.invariant.by_name in
    subst (λ (names : Names). IsNamedOnce names) c.self.view_is (λ name other file at also. same_Some name other (sym (leads name file at) ∙ leads other file also))

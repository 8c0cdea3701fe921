use Rattle.std.proofs.Common.{◌≡◌, sym, ap, subst, ◌∙◌}
use Rattle.std.specs.Prelude.{Some, Err, IfSome, IfNone, IsOkUnless}
use Rattle.std.specs.FinMap as map
use Rattle.vfs_files.specs.declared.file_fault.FileFault.TheVariants.{Memory}
use Rattle.vfs_files.specs.FileTable.{FileTable, refusal_at}
use Rattle.vfs_files.proofs.files.Files.open_file.Goals as goal

-- the name has that file
found : (c : goal.After-existing) → Some c.in-Some.file ≡ map.get c.args.self.now.names c.args.name.now
found c = sym c.in-Some.is ∙ c.file.ensures ∙ ap (λ (t : FileTable). map.get t.names c.args.name.now) c.self.view_is

pub returns-in-Some-clause-refused : goal.returns-in-Some-clause-refused
returns-in-Some-clause-refused c =
    subst (λ at. IfSome (refusal_at c.args.self.now c.args.flags at) (λ fault. c.existing.result ≡ Err fault)) (found c) (c.existing.ensures.refused c.args.self.now)

pub returns-in-Some-clause-granted : goal.returns-in-Some-clause-granted
returns-in-Some-clause-granted c =
    subst (λ at. IfNone (refusal_at c.args.self.now c.args.flags at) (IsOkUnless c.existing.result Memory)) (found c) (c.existing.ensures.granted c.args.self.now)

use Rattle.std.proofs.Common.{◌≡◌, true, List, [], ◌∷◌, ◌++◌, Some, sym, ap, ◌∙◌}
use Rattle.std.specs.Prelude.{if◌then◌else◌, option_map}
use Rattle.std.specs.List.{list_any}
use Rattle.set_disk.specs.Owed.{files_owed, is_name, with_file}
use Rattle.disk_folder.specs.declared.file_name.FileName.{FileName}
use Rattle.set_disk.specs.declared.owed.Owed.{Owed}
use Rattle.set_disk.proofs.owed.Owed.add_file.Goals as goal

-- a file that stands there is not added
stands : (name : FileName) (files : List FileName) → list_any (is_name name) files ≡ true → with_file name files ≡ files
stands name files there = ap (λ found. if found then files else files ++ name ∷ []) there

pub returns-else-not-contains-clause-ok : goal.returns-else-not-contains-clause-ok
returns-else-not-contains-clause-ok c =
    let there : list_any (is_name c.args.name) c.in-Changes.files.items ≡ true =
    ap (list_any (is_name c.args.name)) (sym c.deref.ensures.value) ∙ sym c.contains.ensures.value ∙ c.if-not-contains.false in
    ap (λ (files : List FileName). Some files) (sym (stands c.args.name c.in-Changes.files.items there))
    ∙ sym (ap (λ (owed : Owed). option_map (with_file c.args.name) (files_owed owed)) c.in-Changes.is)

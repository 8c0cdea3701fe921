use Rattle.std.proofs.Common.{true, ap, sym, ◌∙◌, ◌==◌, rules}
use Rattle.std.proofs.lemmas.List.Sorted.{answers_always}
use Rattle.std.specs.Cmp.{nat_cmp_total}
use Rattle.shared_items.specs.declared.shared.FileImage.{FileImage}
use Rattle.shared_items.proofs.Keys.{same_number}
use Rattle.shared_items.proofs.Searched.{is_there, is_absent, parted}
use Rattle.shared_items.proofs.found.has_file.Goals as goal

pub returns-in-Ok : goal.returns-in-Ok
returns-in-Ok c =
    sym (is_there nat_cmp_total (λ (file : FileImage). file.number) c.args.number (λ file. file.number == c.args.number) (λ file. sym (same_number file.number c.args.number)) c.args.files.now c.in-Ok.field-0 c.in-Ok.ensures.bound
    (c.in-Ok.ensures.position (λ file. file.number) (answers_always _ _ _ (λ f a r g called. search rules))))

pub returns-in-Err : goal.returns-in-Err
returns-in-Err c =
    sym (is_absent nat_cmp_total (λ (file : FileImage). file.number) c.args.number (λ file. file.number == c.args.number) (λ file. sym (same_number file.number c.args.number)) c.args.files.now _
    (parted nat_cmp_total (λ (file : FileImage). file.number) c.args.number c.args.files.now _ c.requires (c.in-Err.ensures.position (λ file. file.number) (answers_always _ _ _ (λ f a r g called. search rules)))))

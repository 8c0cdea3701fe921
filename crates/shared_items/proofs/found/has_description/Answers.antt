use Rattle.std.proofs.Common.{sym, ◌∙◌, rules}
use Rattle.std.proofs.lemmas.List.Sorted.{answers_always}
use Rattle.sys_abi.proofs.OrderLaws.{desc_total}
use Rattle.shared_items.specs.declared.shared.DescriptionImage.{DescriptionImage}
use Rattle.shared_items.specs.SharedTests.{is_pair}
use Rattle.shared_items.proofs.Searched.{is_there, is_absent, parted}
use Rattle.shared_items.proofs.DescriptionNames.{same_desc}
use Rattle.shared_items.proofs.found.has_description.Goals as goal

pub returns-in-Ok : goal.returns-in-Ok
returns-in-Ok c =
    sym (is_there desc_total (λ (it : DescriptionImage). it.id) c.args.id (λ it. is_pair c.args.id.pid.0 c.args.id.num it.id) (λ it. same_desc it.id c.args.id) c.args.descriptions.now c.in-Ok.field-0 c.in-Ok.ensures.bound
    (c.in-Ok.ensures.position (λ it. it.id) (answers_always _ _ _ (λ f a r g called. search rules))))

pub returns-in-Err : goal.returns-in-Err
returns-in-Err c =
    sym (is_absent desc_total (λ (it : DescriptionImage). it.id) c.args.id (λ it. is_pair c.args.id.pid.0 c.args.id.num it.id) (λ it. same_desc it.id c.args.id) c.args.descriptions.now c.in-Err.field-0
    (parted desc_total (λ (it : DescriptionImage). it.id) c.args.id c.args.descriptions.now c.in-Err.field-0 c.requires (c.in-Err.ensures.position (λ it. it.id) (answers_always _ _ _ (λ f a r g called. search rules)))))

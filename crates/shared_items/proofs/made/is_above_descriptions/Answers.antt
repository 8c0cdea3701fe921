use Rattle.std.proofs.Common.{refl, sym, rules}
use Rattle.std.proofs.lemmas.List.Sorted.{answers_always}
use Rattle.sys_abi.proofs.OrderLaws.{desc_total}
use Rattle.shared_items.specs.declared.shared.DescriptionImage.{DescriptionImage}
use Rattle.shared_items.proofs.Searched.{parted}
use Rattle.shared_items.proofs.MadeNumbers.{at_number, all_below, next_other}
use Rattle.shared_items.proofs.made.is_above_descriptions.Goals as goal

pub returns-in-Ok : goal.returns-in-Ok
returns-in-Ok c =
    sym (at_number desc_total (λ (it : DescriptionImage). it.id) (λ it. it.id.pid.0) (λ it. it.id.num) (record { pid = record { 0 = c.args.pid }; num = c.args.made }) c.args.pid c.args.made (λ _. refl) (λ _ _. refl) c.args.descriptions.now c.in-Ok.field-0 c.in-Ok.ensures.bound (c.in-Ok.ensures.position (λ it. it.id) (answers_always _ _ _ (λ f a r g called. search rules))))

pub returns-in-None : goal.returns-in-None
returns-in-None c =
    sym (all_below desc_total (λ (it : DescriptionImage). it.id) (λ it. it.id.pid.0) (λ it. it.id.num) (record { pid = record { 0 = c.args.pid }; num = c.args.made }) c.args.pid c.args.made (λ _. refl) (λ _ _. refl) c.args.descriptions.now c.in-Err.place
    (parted desc_total (λ (it : DescriptionImage). it.id) (record { pid = record { 0 = c.args.pid }; num = c.args.made }) c.args.descriptions.now c.in-Err.place c.requires (c.in-Err.ensures.position (λ it. it.id) (answers_always _ _ _ (λ f a r g called. search rules))))
    c.in-None.ensures.lookup.3)

pub returns-in-Some : goal.returns-in-Some
returns-in-Some c =
    sym (next_other desc_total (λ (it : DescriptionImage). it.id) (λ it. it.id.pid.0) (λ it. it.id.num) (record { pid = record { 0 = c.args.pid }; num = c.args.made }) c.args.pid c.args.made (λ _. refl) (λ _ _. refl) c.args.descriptions.now c.in-Err.place
    (parted desc_total (λ (it : DescriptionImage). it.id) (record { pid = record { 0 = c.args.pid }; num = c.args.made }) c.args.descriptions.now c.in-Err.place c.requires (c.in-Err.ensures.position (λ it. it.id) (answers_always _ _ _ (λ f a r g called. search rules))))
    c.requires c.in-Some.next.now c.in-Some.ensures.lookup.3.0 c.in-Some.ensures.lookup.1)

use Rattle.std.proofs.Common.{◌++◌, ap, ◌∙◌}
use Rattle.std.specs.Prelude.{option_to_list}
use Rattle.image_codec.specs.KernelParts.{inserted}
use Rattle.image_codec.proofs.Inserted.{inserted_none}
use Rattle.drive.proofs.Beginnings.{one_more}
use Rattle.drive.proofs.driving.by_number.Goals as goal

pub loop-p-init : goal.loop-p-init
loop-p-init c =
    ap (λ guests. inserted guests c.new-by_number.result) c.into_vec-guests.ensures ∙ ap (inserted c.args.guests) c.new-by_number.ensures ∙ inserted_none c.args.guests

pub loop-p-preserved-in_ok-insert : goal.loop-p-preserved-in_ok-insert
loop-p-preserved-in_ok-insert c =
    let last = c.pop.ensures.items ∙ ap (λ o. c.pop.new.self.items ++ option_to_list o) c.in-Some.is in
    one_more c.loop-p.guests.items c.pop.new.self.items c.in-Some.p c.in-Some.guest c.loop-p.by_number c.insert.new.self last c.in_ok-insert.ensures.ok ∙ c.loop-p.invariant

pub loop-p-preserved : goal.loop-p-preserved
loop-p-preserved c =
    let last = c.pop.ensures.items ∙ ap (λ o. c.pop.new.self.items ++ option_to_list o) c.in-Some.is in
    one_more c.loop-p.guests.items c.pop.new.self.items c.in-Some.p c.in-Some.guest c.loop-p.by_number c.insert.new.self last c.in_ok-insert.ensures.ok ∙ c.loop-p.invariant

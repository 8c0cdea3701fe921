use Rattle.std.proofs.Common.{◌++◌, sym, ap, subst, ◌∙◌}
use Rattle.std.specs.Prelude.{All, option_to_list, map as each}
use Rattle.std.specs.FinMap as map
use Rattle.std.proofs.lemmas.List.Elements.{All-take}
use Rattle.image_codec.specs.KernelParts.{inserted}
use Rattle.image_codec.proofs.Inserted.{inserted_none, inserted_one}
use Rattle.checkpointer.specs.Images.{IsWithin, guest_entry}
use Rattle.checkpointer.proofs.restoring.guests_of.Goals as goal

pub loop-image-init : goal.loop-image-init
loop-image-init c = record {
  so_far = ap (λ images. inserted (each guest_entry images) c.new-guests.result) c.into_vec-images.ensures ∙ ap (inserted (each guest_entry c.args.images)) c.new-guests.ensures ∙ inserted_none (each guest_entry c.args.images);
  within = subst (All IsWithin) (sym c.into_vec-images.ensures) c.requires;
}

pub loop-image-preserved-in_ok-insert : goal.loop-image-preserved-in_ok-insert
loop-image-preserved-in_ok-insert c =
    let last = c.pop.ensures.items ∙ ap (λ o. c.pop.new.self.items ++ option_to_list o) c.in-Some.is in
    let put = c.in_ok-insert.ensures.ok ∙ ap (map.insert c.loop-image.guests c.in-Some.image.pid) c.in_ok-of_image.ensures.part in
    record {
      so_far = inserted_one guest_entry c.loop-image.images.items c.pop.new.self.items c.in-Some.image c.loop-image.guests c.insert.new.self last put ∙ c.loop-image.invariant.so_far;
      within = subst (All IsWithin) (sym c.pop.ensures.rest) (All-take IsWithin _ c.loop-image.images.items c.loop-image.invariant.within);
    }

pub loop-image-preserved : goal.loop-image-preserved
loop-image-preserved c =
    let last = c.pop.ensures.items ∙ ap (λ o. c.pop.new.self.items ++ option_to_list o) c.in-Some.is in
    let put = c.in_ok-insert.ensures.ok ∙ ap (map.insert c.loop-image.guests c.in-Some.image.pid) c.in_ok-of_image.ensures.part in
    record {
      so_far = inserted_one guest_entry c.loop-image.images.items c.pop.new.self.items c.in-Some.image c.loop-image.guests c.insert.new.self last put ∙ c.loop-image.invariant.so_far;
      within = subst (All IsWithin) (sym c.pop.ensures.rest) (All-take IsWithin _ c.loop-image.images.items c.loop-image.invariant.within);
    }

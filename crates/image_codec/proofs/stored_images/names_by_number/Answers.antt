use Rattle.std.proofs.Common.{◌∙◌}
use Rattle.image_codec.proofs.Inserted.{name_put}
use Rattle.image_codec.proofs.stored_images.names_by_number.Goals as goal

pub loop-name-preserved : goal.loop-name-preserved
loop-name-preserved c =
    name_put c.loop-name.name-iterator.iter c.next.new.self.iter c.in-Some.name.now c.in-Some.number.now c.as_slice.result.now c.loop-name.found c.insert_name.new.names
    c.in-Some.ensures.steps c.as_slice.ensures.value c.in_ok-insert_name.ensures ∙ c.loop-name.invariant

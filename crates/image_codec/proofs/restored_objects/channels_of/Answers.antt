use Rattle.std.proofs.Common.{ap, ◌∙◌}
use Rattle.std.specs.FinMap as map
use Rattle.image_codec.specs.KernelParts.{channel_entry}
use Rattle.image_codec.proofs.Inserted.{inserted_one}
use Rattle.image_codec.proofs.SideSets.{channel_told}
use Rattle.image_codec.proofs.restored_objects.channels_of.Goals as goal

pub loop-image-preserved : goal.loop-image-preserved
loop-image-preserved c =
    inserted_one (channel_entry c.args.descriptions.now) _ _ c.in-Some.image.now c.loop-image.channels c.insert.new.self c.in-Some.ensures.steps
    (c.in_ok-insert.ensures.ok ∙ ap (map.insert c.loop-image.channels c.in-Some.image.now.id) (c.channel_of.ensures ∙ channel_told c.args.descriptions.now _ c.in-Some.image.now c.in_ok-named.ensures))
    ∙ c.loop-image.invariant

use Rattle.std.proofs.Common.{◌≡◌, ◌++◌}
use Rattle.std.proofs.Common.{map as each}
use Rattle.std.specs.FinMap as map
use Rattle.image_codec.specs.KernelImages.{channel_image}
use Rattle.image_codec.proofs.stored_images.channel_images.Given as goal

abbrev pub invariant-loop-id : goal.invariant-loop-id
invariant-loop-id l = l.images ++ each (channel_image l.k.directions) l.id-iterator ≡ each (channel_image l.k.directions) (map.entries l.k.channels)

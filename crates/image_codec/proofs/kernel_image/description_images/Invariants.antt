use Rattle.std.proofs.Common.{◌≡◌, ◌++◌}
use Rattle.std.proofs.Common.{map as each}
use Rattle.std.specs.FinMap as map
use Rattle.image_codec.specs.KernelImages.{description_image}
use Rattle.image_codec.proofs.kernel_image.description_images.Given as goal

abbrev pub invariant-loop-id : goal.invariant-loop-id
invariant-loop-id l = l.images ++ each (description_image l.listeners) l.id-iterator ≡ each (description_image l.listeners) (map.entries l.descriptions)

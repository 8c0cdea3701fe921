use Rattle.std.proofs.Common.{◌≡◌, ◌++◌, filter}
use Rattle.std.proofs.Common.{map as each}
use Rattle.std.specs.FinMap as map
use Rattle.image_codec.specs.KernelImages.{descriptor_image, is_of}
use Rattle.image_codec.proofs.kernel_image.descriptor_images.Given as goal

abbrev pub invariant-loop-slot : goal.invariant-loop-slot
invariant-loop-slot l = l.images ++ each descriptor_image (filter (is_of l.pid) l.slot-iterator) ≡ each descriptor_image (filter (is_of l.pid) (map.entries l.descriptors))

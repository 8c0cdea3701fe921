use Rattle.std.proofs.Common.{◌≡◌, ◌++◌}
use Rattle.std.proofs.Common.{map as each}
use Rattle.std.specs.FinMap as map
use Rattle.image_codec.specs.KernelImages.{file_image}
use Rattle.image_codec.proofs.stored_images.named_files.Given as goal

abbrev pub invariant-loop-number : goal.invariant-loop-number
invariant-loop-number l = l.images ++ each (file_image l.names) l.number-iterator ≡ each (file_image l.names) (map.entries l.files)

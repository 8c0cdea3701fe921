use Rattle.std.proofs.Common.{◌≡◌, ◌++◌}
use Rattle.std.proofs.Common.{map as each}
use Rattle.std.specs.FinMap as map
use Rattle.image_codec.specs.KernelImages.{thread_image}
use Rattle.image_codec.proofs.kernel_image.thread_images.Given as goal

abbrev pub invariant-loop-tid : goal.invariant-loop-tid
invariant-loop-tid l = l.images ++ each thread_image l.tid-iterator ≡ each thread_image (map.entries l.threads)

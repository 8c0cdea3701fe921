use Rattle.std.proofs.Common.{◌≡◌, ◌++◌}
use Rattle.std.proofs.Common.{map as each}
use Rattle.std.specs.FinMap as map
use Rattle.image_codec.specs.KernelImages.{process_image}
use Rattle.image_codec.proofs.kernel_image.process_images.Given as goal

abbrev pub invariant-loop-pid : goal.invariant-loop-pid
invariant-loop-pid l = l.images ++ each (process_image l.k) l.pid-iterator ≡ each (process_image l.k) (map.entries l.k.processes)

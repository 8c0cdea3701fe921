use Rattle.std.proofs.Common.{◌≡◌}
use Rattle.std.proofs.Common.{map as each}
use Rattle.std.specs.FinMap as map
use Rattle.std.specs.Slice.Iter.{iter_rest}
use Rattle.image_codec.specs.KernelParts.{inserted, maker_entry}
use Rattle.image_codec.proofs.kernel_of_image.makers_of.Given as goal

abbrev pub invariant-loop-image : goal.invariant-loop-image
invariant-loop-image l = inserted (each maker_entry (iter_rest l.image-iterator.iter)) l.makers ≡ map.from_entries (each maker_entry l.images)

use Rattle.std.proofs.Common.{◌≡◌}
use Rattle.std.proofs.Common.{map as each}
use Rattle.std.specs.Slice.Iter.{iter_rest}
use Rattle.image_codec.specs.KernelParts.{inserted, descriptor_entry}
use Rattle.image_codec.proofs.kernel_of_image.insert_descriptors.Given as goal

abbrev pub invariant-loop-image : goal.invariant-loop-image
invariant-loop-image l = inserted (each (descriptor_entry l.pid) (iter_rest l.image-iterator.iter)) l.descriptors ≡ inserted (each (descriptor_entry l.pid) l.images) l.initial.descriptors

use Rattle.std.proofs.Common.{◌≡◌}
use Rattle.std.proofs.Common.{map as each}
use Rattle.std.specs.FinMap as map
use Rattle.std.specs.Slice.Iter.{iter_rest}
use Rattle.image_codec.specs.KernelParts.{inserted, process_entry}
use Rattle.image_codec.proofs.kernel_of_image.processes_of.Given as goal

abbrev pub invariant-loop-image : goal.invariant-loop-image
invariant-loop-image l = inserted (each process_entry (iter_rest l.image-iterator.iter)) l.processes ≡ map.from_entries (each process_entry l.images)

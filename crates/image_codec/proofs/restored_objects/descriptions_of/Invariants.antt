use Rattle.std.proofs.Common.{◌≡◌}
use Rattle.std.proofs.Common.{map as each}
use Rattle.std.specs.FinMap as map
use Rattle.std.specs.Slice.Iter.{iter_rest}
use Rattle.image_codec.specs.KernelParts.{inserted, description_entry}
use Rattle.image_codec.proofs.restored_objects.descriptions_of.Given as goal

abbrev pub invariant-loop-image : goal.invariant-loop-image
invariant-loop-image l = inserted (each description_entry (iter_rest l.image-iterator.iter)) l.descriptions ≡ map.from_entries (each description_entry l.images)

use Rattle.std.proofs.Common.{◌≡◌}
use Rattle.std.specs.List.{flat_map}
use Rattle.std.specs.FinMap as map
use Rattle.std.specs.Slice.Iter.{iter_rest}
use Rattle.image_codec.specs.KernelParts.{inserted, direction_entries}
use Rattle.image_codec.proofs.restored_objects.directions_of.Given as goal

abbrev pub invariant-loop-image : goal.invariant-loop-image
invariant-loop-image l = inserted (flat_map direction_entries (iter_rest l.image-iterator.iter)) l.directions ≡ map.from_entries (flat_map direction_entries l.images)

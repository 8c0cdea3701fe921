use Rattle.std.proofs.Common.{◌≡◌}
use Rattle.std.specs.List.{filter_map}
use Rattle.std.specs.FinMap as map
use Rattle.std.specs.Slice.Iter.{iter_rest}
use Rattle.image_codec.specs.KernelParts.{inserted, name_entry}
use Rattle.image_codec.proofs.restored_objects.names_of.Given as goal

abbrev pub invariant-loop-image : goal.invariant-loop-image
invariant-loop-image l = inserted (filter_map name_entry (iter_rest l.image-iterator.iter)) l.names ≡ map.from_entries (filter_map name_entry l.images)

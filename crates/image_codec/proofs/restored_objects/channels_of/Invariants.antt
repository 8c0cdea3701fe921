use Rattle.std.proofs.Common.{◌≡◌}
use Rattle.std.proofs.Common.{map as each}
use Rattle.std.specs.FinMap as map
use Rattle.std.specs.Slice.Iter.{iter_rest}
use Rattle.image_codec.specs.KernelParts.{inserted, channel_entry}
use Rattle.image_codec.proofs.restored_objects.channels_of.Given as goal

abbrev pub invariant-loop-image : goal.invariant-loop-image
invariant-loop-image l = inserted (each (channel_entry l.descriptions) (iter_rest l.image-iterator.iter)) l.channels ≡ map.from_entries (each (channel_entry l.descriptions) l.images)

use Rattle.std.proofs.Common.{◌≡◌}
use Rattle.std.specs.List.{filter_map}
use Rattle.shared_items.specs.declared.shared.DescriptionImage.{DescriptionImage}
use Rattle.std.specs.FinMap as map
use Rattle.std.specs.Slice.Iter.{iter_rest}
use Rattle.image_codec.specs.KernelParts.{inserted, listening_of}
use Rattle.image_codec.proofs.restored_objects.listeners_of.Given as goal

abbrev pub invariant-loop-image : goal.invariant-loop-image
invariant-loop-image l = inserted (filter_map (λ (it : DescriptionImage). listening_of it.object) (iter_rest l.image-iterator.iter)) l.listeners ≡ map.from_entries (filter_map (λ (it : DescriptionImage). listening_of it.object) l.images)

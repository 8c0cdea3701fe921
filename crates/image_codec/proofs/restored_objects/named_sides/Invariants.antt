use Rattle.std.proofs.Common.{◌≡◌}
use Rattle.std.specs.List.{flat_map}
use Rattle.shared_items.specs.declared.shared.DescriptionImage.{DescriptionImage}
use Rattle.std.specs.Slice.Iter.{iter_rest}
use Rattle.image_codec.specs.KernelParts.{inserted}
use Rattle.image_codec.specs.NamedSides.{named_sides, sides_of}
use Rattle.image_codec.proofs.restored_objects.named_sides.Given as goal

abbrev pub invariant-loop-description : goal.invariant-loop-description
invariant-loop-description l = inserted (flat_map (λ (it : DescriptionImage). sides_of it.object) (iter_rest l.description-iterator.iter)) l.named ≡ named_sides l.descriptions

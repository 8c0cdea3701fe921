use Rattle.std.proofs.Common.{◌≡◌, length}
use Rattle.std.specs.Prelude.{All, map as each}
use Rattle.std.specs.FinMap as map
use Rattle.image_codec.specs.KernelParts.{inserted}
use Rattle.checkpointer.specs.Images.{IsWithin, guest_entry}
use Rattle.checkpointer.proofs.restoring.guests_of.Given as goal

abbrev pub invariant-loop-image : goal.invariant-loop-image
invariant-loop-image l = record {
  so_far : inserted (each guest_entry l.images.items) l.guests ≡ map.from_entries (each guest_entry l.fn.images);
  within : All IsWithin l.images.items;
}

abbrev pub decreases-loop-image : goal.decreases-loop-image
decreases-loop-image l = length l.images.items

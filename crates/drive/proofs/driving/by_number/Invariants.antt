use Rattle.std.proofs.Common.{◌≡◌, length}
use Rattle.std.specs.FinMap as map
use Rattle.image_codec.specs.KernelParts.{inserted}
use Rattle.drive.proofs.driving.by_number.Given as goal

abbrev pub invariant-loop-p : goal.invariant-loop-p
invariant-loop-p l = inserted l.guests.items l.by_number ≡ map.from_entries l.fn.guests

abbrev pub decreases-loop-p : goal.decreases-loop-p
decreases-loop-p l = length l.guests.items

use Rattle.std.proofs.Common.{◌≡◌}
use Rattle.std.proofs.Common.{map as each}
use Rattle.std.specs.Slice.Iter.{iter_rest}
use Rattle.image_codec.specs.KernelParts.{inserted}
use Rattle.image_codec.specs.NamedSides.{pending_side}
use Rattle.image_codec.proofs.restored_objects.insert_pending.Given as goal

abbrev pub invariant-loop-conn : goal.invariant-loop-conn
invariant-loop-conn l = inserted (each pending_side (iter_rest l.conn-iterator.iter)) l.named ≡ inserted (each pending_side l.pending) l.initial.named

use Rattle.std.proofs.Common.{◌≡◌, false}
use Rattle.rebuild_system.specs.Holders.{is_first_in}
use Rattle.rebuild_system.proofs.Walks.{IsWalk, AreSeen}
use Rattle.rebuild_system.proofs.accepting.holder.Given as goal

abbrev pub invariant-loop-slot : goal.invariant-loop-slot
invariant-loop-slot l = record {
  walk : IsWalk l.kernel.descriptors l.slot-iterator;
  none : AreSeen (λ at x. is_first_in l.kernel.descriptions l.id x.desc ≡ false) l.kernel.descriptors
      l.slot-iterator;
}

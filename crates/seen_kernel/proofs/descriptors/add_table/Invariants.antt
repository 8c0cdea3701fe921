use Rattle.std.specs.Prelude.{◌-◌}
use Rattle.fd_tables.specs.Numbers.{first_above}
use Rattle.seen_kernel.proofs.SeenDescriptors.{TableTo}
use Rattle.seen_kernel.proofs.descriptors.add_table.Given as goal

abbrev pub invariant-loop-fd : goal.invariant-loop-fd
invariant-loop-fd l = TableTo l.ids l.book l.r l.initial.seen l.seen (first_above l.above)

abbrev pub decreases-loop-fd : goal.decreases-loop-fd
decreases-loop-fd l = 256 - first_above l.above

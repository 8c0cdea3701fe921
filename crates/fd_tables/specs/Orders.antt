-- The order of the descriptors of real processes: by their parts in turn.
use Rattle.std.specs.declared.cmp.Ordering.{Ordering}
use Rattle.std.specs.Ordering.{nat_cmp, ordering_then}
use Rattle.std.specs.Coded.{Coded}
use Rattle.fd_tables.specs.declared.real_slot.RealSlot.{RealSlot}
use Rattle.fd_tables.specs.contracts.real_slot.RealSlot as real_slot
use Rattle.sys_abi.specs.Orders.{real_pid_cmp}

abbrev pub real_slot_cmp : RealSlot → RealSlot → Ordering
real_slot_cmp a b = ordering_then (real_pid_cmp a.pid b.pid) (nat_cmp a.fd b.fd)

abbrev pub coded_real_slot : Coded RealSlot
coded_real_slot = real_slot.the_row.coded

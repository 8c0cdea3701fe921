-- Descriptors that those of real processes stand for.
-- Source: `man 2 open` (descriptors).
--     StandForDescriptors ids t b ks       they stand for these, and only live processes have descriptors
--     with_descriptor p fd found seen      one more of that process, if it is open
--     AreFilled ids b left ks seen         those that are not left are seen
--     left_but r left                      what is left but for the descriptors of one process
use Rattle.std.specs.Prelude.{◌≡◌, ◌&&◌, ℕ, Bool, true, not, Option, Some}
use Rattle.std.specs.Option.{option_map_or}
use Rattle.std.specs.Ordering.{eq_by_cmp}
use Rattle.std.specs.FinMap as map
use Rattle.sys_abi.specs.declared.descriptor.Descriptor.{Descriptor}
use Rattle.sys_abi.specs.declared.identity.RealPid.{RealPid}
use Rattle.sys_abi.specs.declared.identity.VPid.{VPid}
use Rattle.sys_abi.specs.Orders.{real_pid_cmp}
use Rattle.virt_ids.specs.Pairs.{Pairs, AreInverse}
use Rattle.fd_tables.specs.declared.real_slot.RealSlot.{RealSlot}
use Rattle.fd_book.specs.Books.{Books}
use Rattle.proc_book.specs.Ends.{is_live_at}
use Rattle.proc_book.specs.Procs.{ProcTable}
use Rattle.plain_tables.specs.Tables.{Descriptors, slot}
use Rattle.host_tables.specs.Processes.{SameDescriptors, from_slot}
use Rattle.seen_kernel.specs.Filling.{IsFilled}

pub record StandForDescriptors (ids : Pairs) (t : ProcTable) (b : Books) (ks : Descriptors) : Type 0 where
  pub alive : (at : RealSlot) (d : Descriptor) → map.get b.descriptors at ≡ Some d
      → is_live_at t.processes at.pid ≡ true
  pub same : SameDescriptors ids.pids ids.virts ks b.descriptors

abbrev pub with_descriptor : VPid → ℕ → Option Descriptor → Descriptors → Descriptors
with_descriptor p fd found seen = option_map_or (λ d. map.insert seen (slot p fd) d) found seen

pub record AreFilled (ids : Pairs) (b : Books) (left : RealSlot → Bool) (ks seen : Descriptors) : Type 0 where
  pub inverse : AreInverse ids.pids ids.virts
  pub same : SameDescriptors ids.pids ids.virts ks b.descriptors
  pub filled : IsFilled (from_slot ids.virts) b.descriptors left ks seen

abbrev pub left_but : RealPid → (RealSlot → Bool) → RealSlot → Bool
left_but r left at = left at && not (eq_by_cmp real_pid_cmp at.pid r)

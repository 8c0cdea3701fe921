-- Processes and their descriptors through the pairs.
--     SameProcess pids virts p r x y      a process, and the real one that stands for it
--     SameProcesses, SameDescriptors      tables of them
use Rattle.std.specs.Prelude.{◌≡◌, Option, option_map}
use Rattle.std.specs.FinMap.{FinMap}
use Rattle.views.specs.Seen.{SeenBy}
use Rattle.sys_abi.specs.declared.identity.VPid.{VPid}
use Rattle.sys_abi.specs.declared.identity.Slot.{Slot}
use Rattle.sys_abi.specs.declared.identity.RealPid.{RealPid}
use Rattle.sys_abi.specs.declared.descriptor.Descriptor.{Descriptor}
use Rattle.fd_tables.specs.declared.real_slot.RealSlot.{RealSlot}
use Rattle.fd_tables.specs.Orders.{real_slot_cmp}
use Rattle.fd_tables.specs.Slots as slots
use Rattle.proc_book.specs.declared.process.Process as real_process
use Rattle.proc_book.specs.Ends as procs
use Rattle.plain_machine.specs.OfPlainTables.declared.process.Process.{Process}
use Rattle.plain_machine.specs.OfPlainTables.Tables.{NOBODY, Processes, Descriptors, slot}
use Rattle.host_tables.specs.Numbers.{Pids, Virts, IsNumberOf, to_real, to_virt, to_real_thread, to_virt_thread}

abbrev pub IsSame : {A B X : Type 0} → A → B → X → X → Type 0
IsSame a b x y = x ≡ y

pub record SameProcess (pids : Pids) (virts : Virts) (p : VPid) (r : RealPid) (x : Process)
    (y : real_process.Process) : Type 0 where
  pub life : x.life ≡ y.life
  pub pending : x.pending ≡ y.pending
  pub parent : IsNumberOf virts NOBODY y.parent x.parent
  pub threads : SeenBy (to_real_thread pids r.node) (to_virt_thread virts r.node) IsSame x.threads y.threads

abbrev pub SameProcesses : Pids → Virts → Processes → procs.Processes → Type 0
SameProcesses pids virts = SeenBy (to_real pids) (to_virt virts) (SameProcess pids virts)

-- descriptors

abbrev pub RealDescriptors : Type 0
RealDescriptors = FinMap real_slot_cmp Descriptor

abbrev pub to_slot : Pids → Slot → Option RealSlot
to_slot pids at = option_map (λ r. slots.slot r at.fd) (to_real pids at.pid)

abbrev pub from_slot : Virts → RealSlot → Option Slot
from_slot virts at = option_map (λ p. slot p at.fd) (to_virt virts at.pid)

abbrev pub SameDescriptors : Pids → Virts → Descriptors → RealDescriptors → Type 0
SameDescriptors pids virts = SeenBy (to_slot pids) (from_slot virts) IsSame

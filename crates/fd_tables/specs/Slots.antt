-- Descriptors of processes, by process and number.
--     slot p fd                   the descriptor of that number of a process
--     refers_to id d              the descriptor refers to the description
--     IsHolder                    the process has a descriptor of the description
--     AreInRange descriptors      each has one of the 256 numbers
use Rattle.std.specs.Prelude.{◌≡◌, ◌<◌, ℕ, Bool, Some}
use Rattle.std.specs.Ordering.{eq_by_cmp}
use Rattle.std.specs.FinMap as map
use Rattle.std.specs.FinMap.{FinMap}
use Rattle.sys_abi.specs.declared.identity.DescId.{DescId}
use Rattle.sys_abi.specs.declared.identity.RealPid.{RealPid}
use Rattle.sys_abi.specs.Orders.{desc_cmp}
use Rattle.fd_tables.specs.declared.real_slot.RealSlot.{RealSlot}
use Rattle.sys_abi.specs.declared.descriptor.Descriptor.{Descriptor}
use Rattle.sys_abi.specs.contracts.descriptor.Descriptor as descriptor
use Rattle.fd_tables.specs.Orders.{real_slot_cmp}

abbrev pub slot : RealPid → ℕ → RealSlot
slot p fd = record { pid = p; fd = fd }

abbrev pub refers_to : DescId → Descriptor → Bool
refers_to id descriptor = eq_by_cmp desc_cmp id descriptor.desc

-- some descriptor of the process refers to the description
abbrev pub IsHolder : FinMap real_slot_cmp Descriptor → DescId → RealPid → Type 0
IsHolder descriptors id p = (fd : ℕ) × (d : Descriptor) × (map.get descriptors (slot p fd) ≡ Some d) × (d.desc ≡ id)

-- each descriptor has one of the 256 numbers
abbrev pub AreInRange : FinMap real_slot_cmp Descriptor → Type 0
AreInRange descriptors = (at : RealSlot) (d : Descriptor) → map.get descriptors at ≡ Some d → at.fd < 256

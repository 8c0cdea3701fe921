-- How the descriptors of all processes are kept: for each process a list of places, by number.
--     at_place places fd      what stands at a place
--     descriptors_of tables   the descriptors of all tables, by process and number
--     free_places places n    how many of the first n places are free
--     place_refers id place   the place holds a descriptor of the description
use Rattle.std.specs.Prelude.{ℕ, zero, suc, ◌+◌, Bool, false, cond, List, [], ◌∷◌, ◌++◌, Option, Some, None, is_some, slice_index_or}
use Rattle.std.specs.FinMap as map
use Rattle.std.specs.FinMap.{FinMap}
use Rattle.sys_abi.specs.declared.identity.RealPid.{RealPid}
use Rattle.sys_abi.specs.declared.identity.DescId.{DescId}
use Rattle.fd_tables.specs.declared.real_slot.RealSlot.{RealSlot}
use Rattle.sys_abi.specs.declared.descriptor.Descriptor.{Descriptor}
use Rattle.fd_tables.specs.Orders.{real_slot_cmp}
use Rattle.fd_tables.specs.Slots.{slot, refers_to}
use Rattle.sys_abi.specs.Orders.{real_pid_cmp}

abbrev pub at_place : List (Option Descriptor) → ℕ → Option Descriptor
at_place places fd = slice_index_or places fd None

-- the descriptors of a process's places from a number on
abbrev pub entries_from : RealPid → ℕ → List (Option Descriptor) → List (RealSlot × Descriptor)
entries_from p fd [] = []
entries_from p fd (None ∷ places) = entries_from p (fd + 1) places
entries_from p fd (Some d ∷ places) = (slot p fd, d) ∷ entries_from p (fd + 1) places

abbrev pub all_entries : List (RealPid × List (Option Descriptor)) → List (RealSlot × Descriptor)
all_entries [] = []
all_entries (table ∷ tables) = entries_from table.0 0 table.1 ++ all_entries tables

unfoldable pub descriptors_of : FinMap real_pid_cmp (List (Option Descriptor)) → FinMap real_slot_cmp Descriptor
descriptors_of tables = map.from_entries (all_entries (map.entries tables))

-- how many of the first n places are free
unfoldable pub free_places : List (Option Descriptor) → ℕ → ℕ
free_places places zero = 0
free_places places (suc n) = free_places places n + cond (is_some (at_place places n)) 0 1

-- the place holds a descriptor of the description
abbrev pub place_refers : DescId → Option Descriptor → Bool
place_refers id None = false
place_refers id (Some d) = refers_to id d

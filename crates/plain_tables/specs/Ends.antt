-- What the end of a process does to the other processes, their makers and the owners of descriptions; what a
-- fork shares.
-- Source: `man 2 exit`, `man 2 wait4`, `man 2 fork`; that the zombies of a parent that ends go with it is
-- this project's own rule.
use Rattle.std.specs.Prelude.{◌==◌, ◌&&◌, ℕ, zero, suc, Bool, not, Option, Some, None, is_some, if◌then◌else◌}
use Rattle.std.specs.FinMap as map
use Rattle.plain_process.specs.OfViews.Maps.{map_values, retain}
use Rattle.id_maps.specs.OfSysAbi.declared.identity.VPid.{VPid}
use Rattle.id_maps.specs.OfSysAbi.declared.life.Life.TheVariants.{Live, Zombie}
use Rattle.id_maps.specs.OfSysAbi.Lives.{lives}
use Rattle.plain_tables.specs.declared.process.Process.{Process}
use Rattle.id_maps.specs.OfSysAbi.declared.descriptor.Descriptor.{Descriptor}
use Rattle.plain_tables.specs.declared.description.Description.{Description}
use Rattle.plain_tables.specs.Tables.{NOBODY, Processes, Makers, Descriptors, Descriptions, slot}

abbrev pub is_child_of : VPid → Process → Bool
is_child_of p process = process.parent == p.0

abbrev pub is_zombie_child : VPid → Process → Bool
is_zombie_child p process = is_child_of p process && not (lives process.life)

abbrev pub orphan : VPid → Process → Process
orphan p process = if is_child_of p process then record process { parent = NOBODY } else process

-- the children of a process have no parent, and its zombies are gone
abbrev pub orphaned : VPid → Processes → Processes
orphaned p processes = map_values (orphan p) (retain (λ q process. not (is_zombie_child p process)) processes)

-- the makers of the processes that are there
abbrev pub makers_of : Processes → Makers → Makers
makers_of processes makers = map.retain_keys makers (λ q. is_some (map.get processes q))

abbrev pub disown : VPid → Description → Description
disown p description = if description.owner == p.0 then record description { owner = 0 } else description

-- a process owns no description
abbrev pub disowned : VPid → Descriptions → Descriptions
disowned p descriptions = map_values (disown p) descriptions

abbrev pub zombie : ℕ → Process → Process
zombie status process =
    record { parent = process.parent; life = Zombie status; pending = 0; threads = map.empty }

-- a process with one thread, of its own number
abbrev pub child_process : ℕ → ℕ → Process
child_process parent number =
    record { parent = parent; life = Live; pending = 0; threads = map.insert map.empty number 0 }

-- a descriptor at the same number of another process too
abbrev pub shared_at : VPid → ℕ → Option Descriptor → Descriptors → Descriptors
shared_at child fd None descriptors = descriptors
shared_at child fd (Some descriptor) descriptors = map.insert descriptors (slot child fd) descriptor

-- a child has its parent's descriptors below a number
unfoldable pub shared_below : VPid → VPid → Descriptors → ℕ → Descriptors
shared_below p child descriptors zero = descriptors
shared_below p child descriptors (suc fd) =
    shared_at child fd (map.get descriptors (slot p fd)) (shared_below p child descriptors fd)

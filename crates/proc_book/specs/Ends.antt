-- What the end of a process does to all processes.
-- Source: `man 2 exit`, `man 2 wait4`; that the zombies of a parent that ends go with it is this project's
-- own rule.
--     orphaned p m          p's children have no parent, and its zombies are gone
--     after_end m p status  then its live parent gets the signal of a child's end and p stays as a zombie; without a live parent it is gone
use Rattle.std.specs.Prelude.{ℕ, Bool, false, not, ◌&&◌, Option, Some, None, if◌then◌else◌}
use Rattle.std.specs.Option.{option_map_or}
use Rattle.std.specs.FinMap as map
use Rattle.views.specs.Maps.{map_values, retain}
use Rattle.virt_ids.specs.OfSysAbi.declared.identity.RealPid.{RealPid}
use Rattle.virt_ids.specs.OfSysAbi.declared.signals.TheConstants.{SIGCHLD}
use Rattle.virt_ids.specs.OfSysAbi.Orders.{real_pid_cmp}
use Rattle.proc_book.specs.declared.process.Process.{Process}
use Rattle.virt_ids.specs.Changes.{at_key}
use Rattle.proc_book.specs.Processes.{is_live, is_child_of, raised, zombie}

abbrev pub Processes : Type 0
Processes = map.FinMap real_pid_cmp Process

abbrev pub is_zombie_child : RealPid → Process → Bool
is_zombie_child p process = is_child_of p process && not (is_live process)

abbrev pub orphan : RealPid → Process → Process
orphan p process = if is_child_of p process then record process { parent = None } else process

abbrev pub orphaned : RealPid → Processes → Processes
orphaned p m = map_values (orphan p) (retain (λ r process. not (is_zombie_child p process)) m)

abbrev pub is_live_at : Processes → RealPid → Bool
is_live_at m p = option_map_or is_live (map.get m p) false

abbrev pub left_by : RealPid → ℕ → Option RealPid → Processes → Processes
left_by p status None m = map.remove m p
left_by p status (Some parent) m = if is_live_at m parent then at_key (at_key m parent (raised None SIGCHLD)) p (zombie status) else map.remove m p

abbrev pub ended_by : RealPid → ℕ → Option Process → Processes → Processes
ended_by p status None m = m
ended_by p status (Some process) m = if is_live process then left_by p status process.parent (orphaned p m) else m

abbrev pub after_end : Processes → RealPid → ℕ → Processes
after_end m p status = ended_by p status (map.get m p) m

-- Processes that a table of real ones stands for, by the pairs of virtual and real numbers.
--     StandForProcesses ids t ks         the table stands for these, and its numbers were handed out
--     StandsForProcess ids t r v x       one of its processes, whose number is v, stands for this one
--     parent_in, life_in                 the parent and the life of a process that may be there
--     threads_in, with_thread            its threads;  one of them more, by its virtual number
use Rattle.std.specs.Prelude.{◌≡◌, ℕ, Option, Some, option_and_then}
use Rattle.std.specs.Option.{option_map_or}
use Rattle.std.specs.Ordering.{nat_cmp}
use Rattle.std.specs.FinMap as map
use Rattle.std.specs.FinMap.{FinMap}
use Rattle.sys_abi.specs.declared.identity.RealPid.{RealPid}
use Rattle.sys_abi.specs.declared.life.Life.{Life}
use Rattle.sys_abi.specs.declared.life.Life.TheVariants.{Live}
use Rattle.virt_ids.specs.Pairs.{Pairs}
use Rattle.proc_book.specs.declared.process.Process as real_process
use Rattle.proc_book.specs.Procs.{ProcTable, pending_of}
use Rattle.plain_tables.specs.declared.process.Process.{Process}
use Rattle.plain_tables.specs.Tables.{Processes, pid}
use Rattle.host_tables.specs.Numbers.{Virts, ArePaired, to_virt_thread}
use Rattle.host_tables.specs.Processes.{SameProcess, SameProcesses}

pub record StandForProcesses (ids : Pairs) (t : ProcTable) (ks : Processes) : Type 0 where
  pub paired : ArePaired ids.pids ids.virts t.next t.next
  pub same : SameProcesses ids.pids ids.virts ks t.processes

pub record StandsForProcess (ids : Pairs) (t : ProcTable) (r : RealPid) (v : ℕ) (x : Process) : Type 0 where
  pub paired : ArePaired ids.pids ids.virts t.next t.next
  pub number : map.get ids.virts r ≡ Some v
  pub real : real_process.Process
  pub there : map.get t.processes r ≡ Some real
  pub same : SameProcess ids.pids ids.virts (pid v) r x real

abbrev pub parent_in : Option real_process.Process → Option RealPid
parent_in found = option_and_then (λ process. process.parent) found

abbrev pub life_in : Option real_process.Process → Life
life_in found = option_map_or (λ process. process.life) found Live

abbrev pub Threads : Type 0
Threads = FinMap nat_cmp ℕ

abbrev pub threads_in : Option real_process.Process → Threads
threads_in found = option_map_or (λ process. process.threads) found map.empty

-- with the signals that are pending for it; nothing more, if it has no virtual number
abbrev pub with_thread : Virts → Option real_process.Process → ℕ → ℕ → Threads → Threads
with_thread virts found node number threads =
    option_map_or (λ t. map.insert threads t (pending_of (Some number) found))
    (to_virt_thread virts node number) threads

-- What it is for tables over real numbers to have a kernel part's processes.
-- Source: `man 2 fork`, `man 7 signal`, and DMTCP's documentation (virtual process numbers stay over a restart,
-- real ones change).
--     with_set t set y           the signals of this set, and no others, are pending for the process or for its thread
--     IsOwn processes v          the number of one of these processes, or of a thread of one
--     IsTold nodes makers ps m   the tables have these processes, each number that is paired is of one, and no
--                                address is paired
--     IsFrom base pids next      the nodes hand out numbers from base on, and each that is paired is such
--     IsMade h k m               they have all of a kernel part's by new numbers, and nodes have some left
--     IsLiveChild m r parent     the process lives and has this parent
--     IsUpTo h k n m             they have its processes below n;  IsAt, IsThreaded: and one more, as far as it is made
--     GaveOut, HasLeft           how many numbers each node has given out, and has left
use Rattle.std.specs.Prelude.{◌≡◌, ◌⊎◌, ℕ, ◌+◌, ◌-◌, ◌^◌, ◌<◌, ◌≤◌, true, List, length, slice_index, Option, Some, None, IsSome}
use Rattle.std.specs.Ordering.{nat_cmp}
use Rattle.std.specs.FinMap as map
use Rattle.std.specs.FinMap.{FinMap}
use Rattle.sys_abi.specs.declared.identity.VPid.{VPid}
use Rattle.sys_abi.specs.declared.identity.RealPid.{RealPid}
use Rattle.sys_abi.specs.declared.life.Life.TheVariants.{Live}
use Rattle.virt_ids.specs.Changes.{at_key}
use Rattle.proc_book.specs.declared.process.Process as real_process
use Rattle.proc_book.specs.Ends as procs
use Rattle.proc_book.specs.Processes.{is_live}
use Rattle.plain_tables.specs.declared.process.Process.{Process}
use Rattle.plain_tables.specs.Tables.{Processes, Makers, pid, has_thread_in}
use Rattle.plain_machine.specs.declared.kernel.PlainKernel.{PlainKernel}
use Rattle.plain_machine.specs.Rows.Clone.{LAST_ID}
use Rattle.host_tables.specs.declared.kernel.Hosts.{Hosts}
use Rattle.host_tables.specs.Numbers.{Pids, ArePaired, AreNumbered, HasRoom}
use Rattle.host_tables.specs.Processes.{SameProcesses}
use Rattle.rebuild_tables.specs.Hosts.{nodes_from}
use Rattle.rebuild_processes.specs.declared.numbered.Numbered.{Numbered}

abbrev pub with_set : Option ℕ → ℕ → real_process.Process → real_process.Process
with_set None set y = record y { pending = set }
with_set (Some t) set y = record y { threads = at_key y.threads t (λ _. set) }

pub record IsLiveChild (m : procs.Processes) (r parent : RealPid) : Type 0 where
  pub process : real_process.Process
  pub there : map.get m r ≡ Some process
  pub lives : is_live process ≡ true
  pub of : process.parent ≡ Some parent

abbrev pub IsOwn : Processes → ℕ → Type 0
IsOwn processes v =
    IsSome (map.get processes (pid v)) ⊎ ((p : VPid) × (has_thread_in v (map.get processes p) ≡ true))

pub record IsTold (nodes : List ℕ) (makers : Makers) (done : Processes) (m : Numbered) : Type 0 where
  pub paired : ArePaired m.ids.pids m.ids.virts m.procs.next m.procs.next
  pub numbered : AreNumbered nodes m.ids.pids done makers
  pub processes : SameProcesses m.ids.pids m.ids.virts done m.procs.processes
  pub numbers : (v : ℕ) (r : RealPid) → map.get m.ids.pids v ≡ Some r → IsOwn done v
  pub addresses : m.ids.addresses ≡ map.empty
  pub ports : m.ids.ports ≡ map.empty

-- so many numbers are left on each node besides those that the kernel part may still give out
abbrev pub SPARE : ℕ
SPARE = 8320

-- from this number on all were free
pub record IsFrom (base : ℕ) (pids : Pids) (next : List ℕ) : Type 0 where
  pub positive : 1 ≤ base
  pub next_from : (node : ℕ) → node < length next → base ≤ slice_index next node
  pub given : (v : ℕ) (r : RealPid) → map.get pids v ≡ Some r → base ≤ r.pid

pub record IsMade (h : Hosts) (k : PlainKernel) (m : Numbered) : Type 0 where
  pub told : IsTold (nodes_from h) k.makers k.processes m
  pub from : IsFrom h.pid_base m.ids.pids m.procs.next
  pub nodes : length m.procs.next ≡ h.nodes
  pub room : HasRoom k.next_id m.procs.next
  pub spare : (node : ℕ) → node < length m.procs.next
      → slice_index m.procs.next node + SPARE + (LAST_ID - k.next_id) ≤ 2 ^ 32

-- the processes with a number below n, and no others
pub record IsFront (all : Processes) (n : ℕ) (done : Processes) : Type 0 where
  pub of : (p : VPid) (x : Process) → map.get done p ≡ Some x → (map.get all p ≡ Some x) × (p.0 < n)
  pub each : (p : VPid) (x : Process) → map.get all p ≡ Some x → p.0 < n → map.get done p ≡ Some x

-- the tables have the processes below n
pub record IsUpTo (h : Hosts) (k : PlainKernel) (n : ℕ) (m : Numbered) : Type 0 where
  pub done : Processes
  pub front : IsFront k.processes n done
  pub told : IsTold (nodes_from h) k.makers done m
  pub nodes : length m.procs.next ≡ h.nodes
  pub from : IsFrom h.pid_base m.ids.pids m.procs.next

-- and the process p, which is r, as x so far
pub record IsAt (h : Hosts) (k : PlainKernel) (p : VPid) (r : RealPid) (x : Process) (m : Numbered) : Type 0 where
  pub done : Processes
  pub front : IsFront k.processes p.0 done
  pub told : IsTold (nodes_from h) k.makers (map.insert done p x) m
  pub nodes : length m.procs.next ≡ h.nodes
  pub from : IsFrom h.pid_base m.ids.pids m.procs.next
  pub paired : map.get m.ids.pids p.0 ≡ Some r

-- its threads below n, and that of its own number, are there with their signals
pub record IsThreaded (h : Hosts) (k : PlainKernel) (p : VPid) (r : RealPid) (process : Process) (n : ℕ)
    (m : Numbered) : Type 0 where
  pub threads : FinMap nat_cmp ℕ
  pub of : (t set : ℕ) → map.get threads t ≡ Some set → map.get process.threads t ≡ Some set
  pub each : (t set : ℕ) → map.get process.threads t ≡ Some set → (t < n) ⊎ (t ≡ p.0)
      → map.get threads t ≡ Some set
  pub at : IsAt h k p r (record { parent = process.parent; life = Live; pending = 0; threads = threads }) m

-- no node has given out more than so many numbers
abbrev pub GaveOut : ℕ → List ℕ → List ℕ → Type 0
GaveOut count before now =
    (node : ℕ) → node < length before → slice_index now node ≤ slice_index before node + count

-- each node has so many numbers left
abbrev pub HasLeft : ℕ → List ℕ → Type 0
HasLeft count next = (node : ℕ) → node < length next → slice_index next node + count ≤ 2 ^ 32

-- Virtual numbers of processes and threads, and the real ones that they are paired with.
-- Source: DMTCP's documentation (virtual process numbers stay over a restart, real ones change).
--     node_of nodes host             the node of a host
--     IsNumberOf virts none o n      the virtual number of a real one, or this number for none
--     to_real, to_virt, ..           the ways from either side to the other
--     ArePaired pids virts given next      each pair leads back, each real number was handed out, and the nodes'
--                                    next numbers are those given
--     AreNumbered nodes pids ..      each process and thread has a pair, of the node of its host, and those of
--                                    one host's processes keep their order
--     HasRoom next_id next           each node has as many numbers left as there are virtual ones to come
use Rattle.std.specs.Prelude.{◌≡◌, ◌==◌, ℕ, ◌+◌, ◌-◌, ◌^◌, ◌<◌, ◌≤◌, true, List, length, slice_index, Option, Some, None, IsSome, option_map, option_and_then, unwrap_or, if◌then◌else◌}
use Rattle.std.specs.Ordering.{nat_cmp}
use Rattle.std.specs.FinMap as map
use Rattle.std.specs.FinMap.{FinMap}
use Rattle.views.specs.Numbers.{ThreadNumber}
use Rattle.sys_abi.specs.declared.identity.VPid.{VPid}
use Rattle.sys_abi.specs.declared.identity.RealPid.{RealPid}
use Rattle.sys_abi.specs.declared.maker.Maker.{Maker}
use Rattle.sys_abi.specs.Orders.{real_pid_cmp}
use Rattle.proc_book.specs.OfVirtIds.Pairs.{AreInverse}
use Rattle.plain_machine.specs.OfPlainTables.declared.process.Process.{Process}
use Rattle.plain_machine.specs.OfPlainTables.Tables.{FIRST_PID, Processes, Makers, pid, same_host}
use Rattle.plain_machine.specs.Rows.Clone.{LAST_ID}

abbrev pub Pids : Type 0
Pids = FinMap nat_cmp RealPid

abbrev pub Virts : Type 0
Virts = FinMap real_pid_cmp ℕ

abbrev pub real : ℕ → ℕ → RealPid
real node number = record { node = node; pid = number }

abbrev pub node_of : List ℕ → ℕ → ℕ
node_of nodes host = slice_index nodes host

abbrev pub IsNumberOf : Virts → ℕ → Option RealPid → ℕ → Type 0
IsNumberOf virts none None n = n ≡ none
IsNumberOf virts none (Some r) n = map.get virts r ≡ Some n

-- the same as a function, for what is known to be paired
abbrev pub number_of : Virts → ℕ → Option RealPid → ℕ
number_of virts none None = none
number_of virts none (Some r) = unwrap_or (map.get virts r) none

abbrev pub IsKnown : Virts → Option RealPid → Type 0
IsKnown virts None = Unit {0}
IsKnown virts (Some r) = IsSome (map.get virts r)

-- ways between processes, and between the threads of one node

abbrev pub to_real : Pids → VPid → Option RealPid
to_real pids p = map.get pids p.0

abbrev pub to_virt : Virts → RealPid → Option VPid
to_virt virts r = option_map pid (map.get virts r)

abbrev pub number_on : ℕ → RealPid → Option ℕ
number_on node r = if r.node == node then Some r.pid else None

abbrev pub to_real_thread : Pids → ℕ → ThreadNumber → Option ThreadNumber
to_real_thread pids node t = option_and_then (number_on node) (map.get pids t)

abbrev pub to_virt_thread : Virts → ℕ → ThreadNumber → Option ThreadNumber
to_virt_thread virts node number = map.get virts (real node number)

-- a real number was handed out by its node, and none is 0
pub record IsHandedOut (next : List ℕ) (v : ℕ) (r : RealPid) : Type 0 where
  pub virt : FIRST_PID ≤ v
  pub node : r.node < length next
  pub first : 1 ≤ r.pid
  pub below : r.pid < slice_index next r.node

pub record ArePaired (pids : Pids) (virts : Virts) (given next : List ℕ) : Type 0 where
  pub inverse : AreInverse pids virts
  pub handed_out : (v : ℕ) (r : RealPid) → map.get pids v ≡ Some r → IsHandedOut next v r
  pub next_is : next ≡ given

pub record AreNumbered (nodes : List ℕ) (pids : Pids) (processes : Processes) (makers : Makers) : Type 0 where
  pub process : (p : VPid) (x : Process) → map.get processes p ≡ Some x → IsSome (map.get pids p.0)
  pub thread : (p : VPid) (x : Process) (t : ThreadNumber) → map.get processes p ≡ Some x
      → IsSome (map.get x.threads t) → IsSome (map.get pids t)
  pub node : (p : VPid) (x : Process) (m : Maker) (r : RealPid) → map.get processes p ≡ Some x
      → map.get makers p ≡ Some m → map.get pids p.0 ≡ Some r → r.node ≡ node_of nodes m.host
  pub thread_node : (p : VPid) (x : Process) (t : ThreadNumber) (r s : RealPid) → map.get processes p ≡ Some x
      → IsSome (map.get x.threads t) → map.get pids p.0 ≡ Some r → map.get pids t ≡ Some s
      → s.node ≡ r.node
  pub order : (p q : VPid) (r s : RealPid) → IsSome (map.get processes p) → IsSome (map.get processes q)
      → same_host (map.get makers p) (map.get makers q) ≡ true
      → map.get pids p.0 ≡ Some r → map.get pids q.0 ≡ Some s → p.0 < q.0 → r.pid < s.pid

abbrev pub HasRoom : ℕ → List ℕ → Type 0
HasRoom next_id next =
    (node : ℕ) → node < length next → slice_index next node + (LAST_ID - next_id) ≤ 2 ^ 32

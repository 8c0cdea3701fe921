-- What a restart needs of a kernel part, and what it hands out.
-- Source: Ansel, Arya, Cooperman, "DMTCP: Transparent Checkpointing for Cluster Computations and the
-- Desktop", 2009: virtual numbers stay over a restart, real ones change.
--     AllArrived directions      all bytes that were sent can be read
--     ArePairedFor processes ids      each process has a real number, and no address is paired
--     HandedOut h k s            each host is on its node, each real number and port is one that a node hands
--                                out, and each node has numbers left
use Rattle.std.specs.Prelude.{◌≡◌, ℕ, ◌+◌, ◌-◌, ◌^◌, ◌<◌, ◌≤◌, length, slice_index, Some, IsSome}
use Rattle.std.specs.FinMap as map
use Rattle.sys_abi.specs.declared.identity.VPid.{VPid}
use Rattle.sys_abi.specs.declared.identity.RealPid.{RealPid}
use Rattle.sys_abi.specs.declared.identity.RealAddr.{RealAddr}
use Rattle.sys_abi.specs.declared.identity.VirtAddr.{VirtAddr}
use Rattle.virt_ids.specs.Pairs.{Pairs}
use Rattle.plain_process.specs.Valid.{Each}
use Rattle.plain_tables.specs.declared.process.Process.{Process}
use Rattle.plain_tables.specs.Tables.{Processes, Directions}
use Rattle.plain_machine.specs.declared.kernel.PlainKernel.{PlainKernel}
use Rattle.plain_machine.specs.Rows.Clone.{LAST_ID}
use Rattle.host_tables.specs.declared.kernel.Hosts.{Hosts}
use Rattle.host_tables.specs.declared.system.System.{System}
use Rattle.rebuild_tables.specs.Hosts.{nodes_from}
use Rattle.rebuild_processes.specs.Making.{SPARE}

abbrev pub AllArrived : Directions → Type 0
AllArrived directions = Each directions (λ d direction. direction.arrived ≡ length direction.left)

pub record ArePairedFor (processes : Processes) (ids : Pairs) : Type 0 where
  pub numbered : (p : VPid) (x : Process) → map.get processes p ≡ Some x → IsSome (map.get ids.pids p.0)
  pub addresses : ids.addresses ≡ map.empty
  pub ports : ids.ports ≡ map.empty

-- by these nodes the pairs of a system that stands for the kernel part are judged: a process's real number is
-- one of its host's node. So many numbers are left on each node besides those that the kernel part may still
-- give out
pub record HandedOut (h : Hosts) (k : PlainKernel) (s : System) : Type 0 where
  pub hosts : s.kernel.nodes ≡ nodes_from h
  pub numbers : (v : ℕ) (r : RealPid) → map.get s.ids.pids v ≡ Some r → h.pid_base ≤ r.pid
  pub ports : (a : VirtAddr) (at : RealAddr) → map.get s.ids.addresses a ≡ Some at → h.port_base ≤ at.port
  pub nodes : length s.kernel.procs.next ≡ h.nodes
  pub spare : (node : ℕ) → node < h.nodes
      → slice_index s.kernel.procs.next node + SPARE + (LAST_ID - k.next_id) ≤ 2 ^ 32

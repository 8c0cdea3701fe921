-- Where the virtual hosts of a computation are when it is restarted.
--     IsHosts h                  1 to 16 nodes, a shift to 15, a first process number from 1 to 1,000,000,000, and a
--                                first port to 57,344
--     node_at h host             the node of a host: (host + shift) mod nodes
--     nodes_from h               those of all hosts
use Rattle.std.specs.Prelude.{ℕ, ◌+◌, ◌%◌, ◌≤◌, List, map as each}
use Rattle.std.specs.List.{range_with_len}
use Rattle.host_tables.specs.declared.kernel.Hosts.{Hosts}

pub record IsHosts (h : Hosts) : Type 0 where
  pub some : 1 ≤ h.nodes
  pub nodes : h.nodes ≤ 16
  pub shift : h.shift ≤ 15
  pub first : 1 ≤ h.pid_base
  pub last : h.pid_base ≤ 1000000000
  pub ports : h.port_base ≤ 57344

abbrev pub node_at : Hosts → ℕ → ℕ
node_at h host = (host + h.shift) % h.nodes

abbrev pub nodes_from : Hosts → List ℕ
nodes_from h = each (node_at h) (range_with_len 0 16)

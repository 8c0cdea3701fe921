-- Listeners by their ports, and the connections that wait at each, oldest first.
-- Source: `man 2 listen`, `man 2 accept`.
--     real node port               the port of that node
--     new_listener backlog         nobody waits yet
--     with_last id listener        one more connection waits, behind the others
--     without_first listener       the oldest one waits no more
--     AllPortsUsed m node base     somebody listens at each port of the node
--     IsNextPort m node base at    nobody listens at that port of the node, and somebody at each one before it
use Rattle.std.specs.Prelude.{◌≡◌, ℕ, ◌+◌, ◌<◌, ◌≤◌, [], ◌∷◌, ◌++◌, drop, None, IsSome}
use Rattle.std.specs.FinMap as map
use Rattle.virt_ids.specs.OfSysAbi.declared.identity.ConnId.{ConnId}
use Rattle.virt_ids.specs.OfSysAbi.declared.identity.RealAddr.{RealAddr}
use Rattle.wire_channels.specs.declared.listener.Listener.{Listener}
use Rattle.wire_channels.specs.declared.limits.TheConstants.{PORT_COUNT}
use Rattle.virt_ids.specs.OfSysAbi.Orders.{real_address_cmp}

abbrev pub Listeners : Type 0
Listeners = map.FinMap real_address_cmp Listener

abbrev pub real : ℕ → ℕ → RealAddr
real node port = record { node = node; port = port }

abbrev pub new_listener : ℕ → Listener
new_listener backlog = record { backlog = backlog; queue = [] }

abbrev pub with_last : ConnId → Listener → Listener
with_last id listener = record listener { queue = listener.queue ++ id ∷ [] }

abbrev pub without_first : Listener → Listener
without_first listener = record listener { queue = drop 1 listener.queue }

abbrev pub AreUsed : Listeners → ℕ → ℕ → ℕ → Type 0
AreUsed m node base end = (port : ℕ) → base ≤ port → port < end → IsSome (map.get m (real node port))

abbrev pub AllPortsUsed : Listeners → ℕ → ℕ → Type 0
AllPortsUsed m node base = AreUsed m node base (base + PORT_COUNT)

pub record IsNextPort (m : Listeners) (node base : ℕ) (at : RealAddr) : Type 0 where
  pub node_is : at.node ≡ node
  pub first : base ≤ at.port
  pub last : at.port < base + PORT_COUNT
  pub free : map.get m at ≡ None
  pub before : AreUsed m node base at.port

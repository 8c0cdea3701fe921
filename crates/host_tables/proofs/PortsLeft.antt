-- While the tables stand for a valid kernel part, each node has a port at which nobody listens: there are
-- fewer listeners than a node has ports.
use Rattle.std.proofs.Common.{ℕ, List, arith}
use Rattle.std.specs.FinMap as map
use Rattle.views.proofs.SeenLengths.{same_len}
use Rattle.sys_abi.proofs.OrderLaws.{address_total, address_exact, real_address_total, real_address_exact}
use Rattle.wire_net.specs.OfWireChannels.Listeners as listeners
use Rattle.wire_net.proofs.PortsInUse.{all_ports-many}
use Rattle.plain_machine.proofs.OfPlainTables.FewListeners.{few_listeners}
use Rattle.plain_machine.specs.declared.kernel.PlainKernel.{PlainKernel}
use Rattle.plain_machine.specs.Kernels.{IsKernel}
use Rattle.host_tables.specs.Descriptions.{Addresses}
use Rattle.host_tables.specs.Network.{Ports, SameListener, SameListeners}
use Rattle.host_tables.proofs.Ways.{lead_place}

pub ports_left : (k : PlainKernel) (nodes : List ℕ) (addresses : Addresses) (ports : Ports)
    (real : listeners.Listeners)
    → IsKernel k → SameListeners nodes addresses ports k.listeners real
    → (node base : ℕ) → listeners.AllPortsUsed real node base → ⊥
ports_left k nodes addresses ports real is same node base used =
    let count =
    same_len address_total address_exact real_address_total real_address_exact
    (map.get addresses) (map.get ports)
    (lead_place addresses ports same.inverse) SameListener k.listeners real same.each in
    let few =
    few_listeners k.next_id k.processes k.descriptors k.descriptions k.listeners k.channels
    is.processes is.descriptors is.descriptions is.listeners in
    let many = all_ports-many real node base used in
    omega (arith, count, few, many)

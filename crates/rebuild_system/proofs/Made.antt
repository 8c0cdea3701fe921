-- A listener that was made, with what waits there.
--     HasListener-made
use Rattle.std.proofs.Common.{◌≡◌, ℕ, List, ap, subst, ◌∙◌}
use Rattle.std.specs.FinMap as map
use Rattle.sys_abi.specs.declared.identity.ConnId.{ConnId}
use Rattle.sys_abi.specs.declared.identity.RealAddr.{RealAddr}
use Rattle.sys_abi.specs.declared.identity.VirtAddr.{VirtAddr}
use Rattle.virt_ids.specs.Changes.{at_key}
use Rattle.plain_tables.specs.declared.channel.Listening.{Listening}
use Rattle.plain_machine.specs.declared.kernel.PlainKernel.{PlainKernel}
use Rattle.virt_ids.specs.Pairs.{Pairs}
use Rattle.discovery.specs.Directories.{Publications}
use Rattle.wire_channels.specs.Listeners.{new_listener, IsNextPort}
use Rattle.wire_net.specs.Networks.{Network}
use Rattle.host_tables.specs.declared.kernel.Hosts.{Hosts}
use Rattle.rebuild_tables.specs.Hosts.{node_at}
use Rattle.rebuild_system.specs.Steps.{is_among, with_queue, AreJoined, AreFound, HasListener}
use Rattle.rebuild_system.proofs.FoundEnds.{at_inserted}

module _ (h : Hosts) (k : PlainKernel) (a : VirtAddr) (x : Listening) (node : ℕ) (queue : List ConnId)
    (before ids : Pairs) (old heard net : Network) (m m' : Publications) (at : RealAddr)
    (node_is : node ≡ node_at h a.host) (queue_is : queue ≡ x.queue)
    (port : IsNextPort old.listeners node old.port_base at)
    (listened : heard ≡ record old { listeners = map.insert old.listeners at (new_listener x.backlog) })
    (paired : ids ≡ record before {
      addresses = map.insert before.addresses a at;
      ports = map.insert before.ports at a;
    })
    (base : net.port_base ≡ heard.port_base)
    (filled : net.listeners ≡ at_key heard.listeners at (with_queue queue))
    (joined : AreJoined k (is_among queue) heard.channels net.channels)
    (found : AreFound at (is_among queue) m m') where
  pub HasListener-made : HasListener h k a x before ids old net m m'
  HasListener-made = record {
    at = at;
    node = port.node_is ∙ node_is;
    port = port.first;
    free = port.free;
    addresses = ap (λ (p : Pairs). p.addresses) paired;
    ports = ap (λ (p : Pairs). p.ports) paired;
    base = base ∙ ap (λ (n : Network). n.port_base) listened;
    listeners =
        filled
        ∙ ap (λ (n : Network). at_key n.listeners at (with_queue queue)) listened
        ∙ at_inserted old.listeners at (new_listener x.backlog) (with_queue queue)
        ∙ ap (λ (q : List ConnId). map.insert old.listeners at (record { backlog = x.backlog; queue = q }))
        queue_is;
    channels =
        subst (λ (q : List ConnId). AreJoined k (is_among q) old.channels net.channels) queue_is
        (subst (λ (n : Network). AreJoined k (is_among queue) n.channels net.channels) listened joined);
    found = subst (λ (q : List ConnId). AreFound at (is_among q) m m') queue_is found;
  }

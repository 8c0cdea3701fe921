-- The address at which a socket listens, and the port of its node, are nobody's yet.
--     IsNewPlace g real a at      neither is paired, and the port is of the node of the address's host
--     new_place                   so is the place of a socket that listens
use Rattle.std.proofs.Common.{◌≡◌, ℕ, true, Option, Some, None, inl, inr, refl, sym, ap, ◌∙◌}
use Rattle.std.specs.Prelude.{is_some}
use Rattle.std.specs.List.{list_any}
use Rattle.std.specs.FinMap as map
use Rattle.std.proofs.lemmas.Bool.{eqb-true}
use Rattle.std.proofs.lemmas.Option.{same_Some, none-some}
use Rattle.views.proofs.Counting.{found_among}
use Rattle.views.proofs.MapLaws.{true_false, same_or_other, same_key}
use Rattle.views.proofs.Seen.{agree_found}
use Rattle.sys_abi.specs.declared.descriptor.Descriptor.{Descriptor}
use Rattle.sys_abi.specs.declared.errors.TheConstants.{EADDRINUSE}
use Rattle.sys_abi.specs.declared.identity.DescId.{DescId}
use Rattle.sys_abi.specs.declared.identity.VPid.{VPid}
use Rattle.sys_abi.specs.declared.identity.RealPid.{RealPid}
use Rattle.sys_abi.specs.declared.identity.RealAddr.{RealAddr}
use Rattle.sys_abi.specs.declared.identity.VirtAddr.{VirtAddr}
use Rattle.sys_abi.specs.declared.maker.Maker.{Maker}
use Rattle.sys_abi.proofs.OrderLaws.{desc_total, desc_exact, address_total, address_exact}
use Rattle.plain_tables.specs.declared.channel.Listening.{Listening}
use Rattle.plain_tables.specs.declared.description.Description.{Description}
use Rattle.plain_tables.specs.declared.description.Object.{Object}
use Rattle.plain_tables.specs.declared.description.Object.TheVariants.{Console, File, Stream, Socket, Listener, Datagram, Counter}
use Rattle.plain_tables.specs.Objects.{is_listener_at, bound_at, host_of_object}
use Rattle.plain_tables.specs.Tables.{slot}
use Rattle.plain_tables.specs.Valid.Sockets.{has_host}
use Rattle.plain_process.specs.Attempts.{Gives}
use Rattle.plain_machine.specs.declared.kernel.PlainKernel.{PlainKernel}
use Rattle.plain_machine.specs.Kernels.{IsKernel}
use Rattle.plain_machine.specs.SocketWords.{bound_or}
use Rattle.plain_machine.proofs.SocketTests.{MayUse, bound_is}
use Rattle.plain_machine.proofs.WholeSockets.{socket_addressed}
use Rattle.wire_channels.specs.Listeners.{IsNextPort}
use Rattle.host_descriptors.specs.OfHostTables.declared.kernel.Kernel.{Kernel}
use Rattle.host_descriptors.specs.OfHostTables.Network.{SameListener}
use Rattle.host_descriptors.specs.OfHostTables.Numbers.{node_of}
use Rattle.host_descriptors.specs.OfHostTables.Requests.{AreListened}
use Rattle.host_descriptors.specs.OfHostTables.Stands.{Given, Stands}
use Rattle.host_descriptors.proofs.OfHostTables.LookUps.{some_value}
use Rattle.host_descriptors.proofs.OfHostTables.Neighbours.{there_by}

pub record IsNewPlace (g : Given) (real : Kernel) (k : PlainKernel) (a : VirtAddr)
    (at : RealAddr) : Type 0 where
  pub no_address : map.get g.addresses a ≡ None
  pub no_port : map.get g.ports at ≡ None
  pub no_listening : map.get k.listeners a ≡ None
  pub node : at.node ≡ node_of real.nodes a.host

-- a listener is bound

bound_there : (a : VirtAddr) (o : Object) → is_listener_at a o ≡ true → bound_at o ≡ Some a
bound_there a Console is = true_false (sym is)
bound_there a (File number offset) is = true_false (sym is)
bound_there a (Stream conn side) is = true_false (sym is)
bound_there a (Socket at) is = true_false (sym is)
bound_there a (Listener at) is = ap Some (sym (same_key address_total address_exact a at is))
bound_there a (Datagram peer) is = true_false (sym is)
bound_there a (Counter value) is = true_false (sym is)

-- the maker of a host
maker_by : (o : Option Maker) (host : ℕ) → has_host o host ≡ true → (m : Maker)
    × ((o ≡ Some m) × (m.host ≡ host))
maker_by None host is = true_false (sym is)
maker_by (Some m) host is = (m, (refl, eqb-true m.host host is))

module _ (g : Given) (real : Kernel) (k : PlainKernel) (st : Stands g None real k) (whole : IsKernel k)
    (p : VPid)
    (who : RealPid) (paired : map.get g.pids p.0 ≡ Some who) (fd : ℕ) (descriptor : Descriptor)
    (x : Description)
    (at_slot : map.get k.descriptors (slot p fd) ≡ Some descriptor)
    (known : map.get k.descriptions descriptor.desc ≡ Some x) (socket : VirtAddr)
    (was : x.object ≡ Socket socket)
    (a : VirtAddr) (bound : bound_or k socket EADDRINUSE ≡ Gives a) where
  abbrev d : DescId
  d = descriptor.desc

  usable : MayUse k d socket a
  usable =
      (bound_is k whole d x known socket was (socket_addressed k whole d x known socket was).1
      EADDRINUSE).each a bound

  not_itself : (z : Description) → map.get k.descriptions d ≡ Some z → is_listener_at a z.object ≡ true → ⊥
  not_itself z there at =
      let same : z ≡ x = same_Some z x (sym there ∙ known) in
      true_false (sym at ∙ ap (λ (v : Description). is_listener_at a v.object) same ∙ ap (is_listener_at a)
      was)

  not_described : list_any (λ (z : Description). is_listener_at a z.object) (map.values k.descriptions)
      ≡ true → ⊥
  not_described any =
      let found =
      found_among desc_total desc_exact (λ (z : Description). is_listener_at a z.object) k.descriptions any in
      elim (same_or_other desc_total desc_exact found.0 d) [
        | inl here ↦ not_itself found.1.0 (ap (map.get k.descriptions) (sym here) ∙ found.1.1.0) found.1.1.1
        | inr other ↦ usable.free found.0 found.1.0 other found.1.1.0
            (bound_there a found.1.0.object found.1.1.1)
      ]

  none_by : (o : Option Listening) → map.get k.listeners a ≡ o → map.get k.listeners a ≡ None
  none_by None is = is
  none_by (Some l) is = absurd (not_described (sym (whole.listeners.described a) ∙ ap is_some is))

  no_listening : map.get k.listeners a ≡ None
  no_listening = none_by (map.get k.listeners a) refl

  own_node : who.node ≡ node_of real.nodes a.host
  own_node =
      let m =
      maker_by (map.get k.makers p) socket.host
      (whole.hosts.held (slot p fd) descriptor x socket.host at_slot known
      (ap (host_of_object k.channels) was)) in
      let process = there_by (map.get k.processes p) (whole.descriptors.alive (slot p fd) descriptor at_slot)
      in
      st.numbered.node p process.0 m.0 who process.1 m.1.0 paired
      ∙ ap (node_of real.nodes) (m.1.1 ∙ sym usable.host)

  module _ (listened : AreListened g k) where
    no_address_by : (o : Option RealAddr) → map.get g.addresses a ≡ o → map.get g.addresses a ≡ None
    no_address_by None is = is
    no_address_by (Some at) is =
        let l = some_value (map.get k.listeners a) (listened a at is) in
        absurd (none-some l.0 (sym no_listening ∙ l.1))

    module _ (at : RealAddr) (base : ℕ) (next : IsNextPort real.net.listeners who.node base at) where
      no_port_by : (o : Option VirtAddr) → map.get g.ports at ≡ o → map.get g.ports at ≡ None
      no_port_by None is = is
      no_port_by (Some b) is =
          let leads = st.listeners.inverse.leads_there b at is in
          let l = some_value (map.get k.listeners b) (listened b at leads) in
          let y =
          agree_found (SameListener b at) (map.get k.listeners b) (map.get real.net.listeners at) l.0
          (st.listeners.each.at b at leads) l.1 in
          absurd (none-some y.0 (sym next.free ∙ y.1.0))

      pub new_place : IsNewPlace g real k a at
      new_place = record {
        no_address = no_address_by (map.get g.addresses a) refl;
        no_port = no_port_by (map.get g.ports at) refl;
        no_listening = no_listening;
        node = next.node_is ∙ own_node;
      }

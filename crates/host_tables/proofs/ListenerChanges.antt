-- Listeners that change, come or go, through their addresses.
--     SameDirections-listeners      directions say nothing of listeners
--     listener_put, listener_taken  a listener is another;  it goes
--     listener_made                 a new one, at a port that nobody has
use Rattle.std.proofs.Common.{◌≡◌, Option, Some, None}
use Rattle.std.specs.FinMap as map
use Rattle.views.specs.Seen.{Agree, SeenBy}
use Rattle.views.proofs.Seen.{SeenBy-insert, SeenBy-remove}
use Rattle.sys_abi.specs.declared.identity.Dir.{Dir}
use Rattle.sys_abi.specs.declared.identity.RealAddr.{RealAddr}
use Rattle.sys_abi.specs.declared.identity.VirtAddr.{VirtAddr}
use Rattle.sys_abi.proofs.OrderLaws.{address_total, address_exact, real_address_total, real_address_exact}
use Rattle.plain_machine.specs.OfPlainTables.declared.channel.Direction as plain_direction
use Rattle.plain_machine.specs.OfPlainTables.declared.channel.Listening.{Listening}
use Rattle.plain_machine.specs.OfPlainTables.Tables.{Directions, Listeners}
use Rattle.plain_machine.specs.declared.kernel.PlainKernel.{PlainKernel}
use Rattle.wire_net.specs.OfWireChannels.declared.listener.Listener.{Listener}
use Rattle.wire_net.specs.OfWireChannels.Channels as channels
use Rattle.wire_net.specs.OfWireChannels.Directions.{Direction}
use Rattle.wire_net.specs.OfWireChannels.Listeners as listeners
use Rattle.wire_net.specs.Networks.{Network}
use Rattle.host_tables.specs.declared.kernel.Kernel.{Kernel}
use Rattle.host_tables.specs.Descriptions.{Stage}
use Rattle.host_tables.specs.Network.{SameDirection, SameDirections, SameListener}
use Rattle.host_tables.specs.Stands.{Given, Stands}
use Rattle.host_tables.proofs.Frames.{net_kept}
use Rattle.host_tables.proofs.Ways.{lead_place}

module _ (t : Network) (listeners : listeners.Listeners) (held : Option Stage) where
  abbrev t' : Network
  t' = record t { listeners = listeners }

  same_bytes : (d : Dir) (o : Option plain_direction.Direction) (q : Option Direction)
      → Agree (SameDirection t held d) o q → Agree (SameDirection t' held d) o q
  same_bytes d None None h = tt
  same_bytes d None (Some y) h = h
  same_bytes d (Some x) None h = h
  same_bytes d (Some x) (Some y) h =
      record { left = h.left; ended = h.ended; unread = h.unread; arrived = h.arrived }

  pub SameDirections-listeners : (virt : Directions) → SameDirections t held virt → SameDirections t' held virt
  SameDirections-listeners virt same = record {
    at = λ d less. same_bytes d (map.get virt d) (channels.direction_at t.channels d) (same.at d less);
    no_other = same.no_other;
    closed = same.closed;
  }

module _ (g : Given) (held : Option Stage) (real : Kernel) (k : PlainKernel) (st : Stands g held real k)
    (a : VirtAddr) (at : RealAddr) (paired : map.get g.addresses a ≡ Some at) where
  listeners_kept : (virt : Listeners) (table : listeners.Listeners)
      → SeenBy (map.get g.addresses) (map.get g.ports) SameListener virt table
      → Stands g held (record real { net = record real.net { listeners = table } }) (record k { listeners = virt })
  listeners_kept virt table same =
      net_kept g held real k st (record real.net { listeners = table }) k.channels k.directions virt st.channels
      (SameDirections-listeners real.net table held k.directions st.directions)
      (record { inverse = st.listeners.inverse; node = st.listeners.node; each = same })

  pub listener_put : (x : Listening) (y : Listener) → SameListener a at x y → Stands g held
      (record real { net = record real.net { listeners = map.insert real.net.listeners at y } })
      (record k { listeners = map.insert k.listeners a x })
  listener_put x y is =
      listeners_kept (map.insert k.listeners a x) (map.insert real.net.listeners at y)
      (SeenBy-insert address_total address_exact real_address_total real_address_exact (map.get g.addresses)
      (map.get g.ports) (lead_place g.addresses g.ports st.listeners.inverse) SameListener k.listeners
      real.net.listeners st.listeners.each a at paired x y is)

  pub listener_taken : Stands g held
      (record real { net = record real.net { listeners = map.remove real.net.listeners at } })
      (record k { listeners = map.remove k.listeners a })
  listener_taken =
      listeners_kept (map.remove k.listeners a) (map.remove real.net.listeners at)
      (SeenBy-remove address_total address_exact real_address_total real_address_exact (map.get g.addresses)
      (map.get g.ports) (lead_place g.addresses g.ports st.listeners.inverse) SameListener k.listeners
      real.net.listeners st.listeners.each a at paired)

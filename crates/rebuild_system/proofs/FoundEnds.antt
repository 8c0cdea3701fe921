-- Two ends that find each other.
--     placed, looked_up       what was published is found, and is known to have been looked up
--     heard                   a listener is there for them
--     joined                  the listener that was there for two ends alone leaves their channel, and
--                             nothing else
use Rattle.std.proofs.Common.{◌≡◌, true, false, [], ap, ◌∙◌}
use Rattle.std.specs.Prelude.{Option, Some, None, option_map}
use Rattle.std.specs.Option.{option_map_or}
use Rattle.std.specs.FinMap as map
use Rattle.views.proofs.MapLaws.{get_insert_same, insert_insert, remove_insert, remove_absent}
use Rattle.sys_abi.specs.declared.identity.ConnId.{ConnId}
use Rattle.sys_abi.specs.declared.identity.RealAddr.{RealAddr}
use Rattle.sys_abi.proofs.OrderLaws.{conn_total, conn_exact, real_address_total, real_address_exact}
use Rattle.virt_ids.specs.Changes.{at_key}
use Rattle.discovery.specs.declared.publication.Publication.{Publication}
use Rattle.discovery.specs.Directories.{Publications, place_of, with_place, with_look_up}
use Rattle.wire_channels.specs.declared.listener.Listener.{Listener}
use Rattle.wire_channels.specs.Channels.{new_channel, after_closes}
use Rattle.wire_channels.specs.Listeners.{Listeners, new_listener, with_last, without_first}
use Rattle.wire_net.specs.Networks.{Network, waiting_at}
use Rattle.rebuild_system.specs.Steps.{reached_at}

module _ (m : Publications) (id : ConnId) (at : RealAddr) where
  published : map.get (with_place m id at) id ≡ Some (record { at = at; asked = false })
  published = get_insert_same conn_total conn_exact m id (record { at = at; asked = false })

  pub placed : place_of (with_place m id at) id ≡ Some at
  placed = ap (λ (o : Option Publication). option_map (λ p. p.at) o) published

  pub looked_up : with_look_up (with_place m id at) id ≡ map.insert m id (reached_at at)
  looked_up =
      ap (λ (o : Option Publication). option_map_or
      (λ p. map.insert (with_place m id at) id (record { at = p.at; asked = true })) o (with_place m id at))
      published
      ∙ insert_insert conn_total conn_exact m id (record { at = at; asked = false }) (reached_at at)

-- a change of what was just put there
pub at_inserted : (m : Listeners) (at : RealAddr) (x : Listener) (f : Listener → Listener)
    → at_key (map.insert m at x) at f ≡ map.insert m at (f x)
at_inserted m at x f =
    ap (λ (o : Option Listener). option_map_or (λ y. map.insert (map.insert m at x) at (f y)) o
    (map.insert m at x))
    (get_insert_same real_address_total real_address_exact m at x)
    ∙ insert_insert real_address_total real_address_exact m at x (f x)

module _ (n : Network) (at : RealAddr) (id : ConnId) (free : map.get n.listeners at ≡ None) where
  abbrev listened : Network
  listened = record n { listeners = map.insert n.listeners at (new_listener 1) }

  abbrev connected : Network → Network
  connected x = record x {
    listeners = at_key x.listeners at (with_last id);
    channels = map.insert x.channels id new_channel;
  }

  abbrev accepted : Network → Network
  accepted x = record x { listeners = at_key x.listeners at without_first }

  abbrev closed : Network → Network
  closed x = record x {
    listeners = map.remove x.listeners at;
    channels = after_closes 1 x.channels (waiting_at (map.get x.listeners at));
  }

  nobody_waits :
      at_key (at_key (map.insert n.listeners at (new_listener 1)) at (with_last id)) at without_first
      ≡ map.insert n.listeners at (new_listener 1)
  nobody_waits =
      ap (λ (m : Listeners). at_key m at without_first)
      (at_inserted n.listeners at (new_listener 1) (with_last id))
      ∙ at_inserted n.listeners at (with_last id (new_listener 1)) without_first

  gone : map.remove (map.insert n.listeners at (new_listener 1)) at ≡ n.listeners
  gone =
      remove_insert real_address_total real_address_exact n.listeners at (new_listener 1)
      ∙ remove_absent real_address_total real_address_exact n.listeners at free

  none_waits : waiting_at (map.get (map.insert n.listeners at (new_listener 1)) at) ≡ []
  none_waits =
      ap (λ (o : Option Listener). waiting_at o)
      (get_insert_same real_address_total real_address_exact n.listeners at (new_listener 1))

  abbrev with_it : Network
  with_it = record n { channels = map.insert n.channels id new_channel }

  closed_last : closed (accepted (connected listened)) ≡ with_it
  closed_last =
      ap (λ (m : Listeners). record with_it {
        listeners = map.remove m at;
        channels = after_closes 1 (map.insert n.channels id new_channel) (waiting_at (map.get m at));
      }) nobody_waits
      ∙ (λ i. record with_it {
        listeners = gone i;
        channels = after_closes 1 (map.insert n.channels id new_channel) (none_waits i);
      })

  pub joined : (a b c d : Network) → a ≡ listened → b ≡ connected a → c ≡ accepted b → d ≡ closed c
      → d ≡ with_it
  joined a b c d first second third fourth =
      fourth ∙ ap closed (third ∙ ap accepted (second ∙ ap connected first)) ∙ closed_last

-- there is a listener for the two ends
pub heard : (n a : Network) (at : RealAddr) (id : ConnId)
    → a ≡ record n { listeners = map.insert n.listeners at (new_listener 1) }
    → map.get (at_key a.listeners at (with_last id)) at ≡ Some (with_last id (new_listener 1))
heard n a at id is =
    ap (λ (x : Network). map.get (at_key x.listeners at (with_last id)) at) is
    ∙ ap (λ (m : Listeners). map.get m at) (at_inserted n.listeners at (new_listener 1) (with_last id))
    ∙ get_insert_same real_address_total real_address_exact n.listeners at (with_last id (new_listener 1))

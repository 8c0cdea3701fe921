-- A socket listens, through the pairs.
--     SameListeners-made     a new listener, at a place that nobody has
--     changed_there          a description that is there, changed
--     listens                the kernel after it
use Rattle.std.proofs.Common.{◌≡◌, ◌≢◌, ◌⊎◌, ℕ, List, [], Some, None, inl, inr, refl, sym, ap, ◌∙◌, subst}
use Rattle.std.specs.Prelude.{is_some, option_map, option_and_then, unwrap_or, min, max}
use Rattle.std.specs.FinMap as map
use Rattle.std.proofs.lemmas.Option.{same_Some, none-some}
use Rattle.views.specs.Seen.{SeenBy}
use Rattle.views.proofs.MapLaws.{same_or_other, get_insert_same, get_insert_other}
use Rattle.views.proofs.Seen.{grown, SeenBy-insert}
use Rattle.sys_abi.specs.declared.identity.DescId.{DescId}
use Rattle.sys_abi.specs.declared.identity.RealAddr.{RealAddr}
use Rattle.sys_abi.specs.declared.identity.VirtAddr.{VirtAddr}
use Rattle.sys_abi.proofs.OrderLaws.{desc_total, desc_exact, address_total, address_exact, real_address_total, real_address_exact}
use Rattle.conn_table.specs.Pairs.{Pairs}
use Rattle.fd_book.specs.Books.{Books, with_changed, changed_or_same}
use Rattle.fd_tables.specs.declared.description.Desc.{Desc}
use Rattle.fd_tables.specs.declared.description.Object.{Object}
use Rattle.fd_tables.specs.declared.description.Object.TheVariants as object
use Rattle.fd_tables.specs.Parts.{with_object}
use Rattle.plain_tables.specs.declared.channel.Listening.{Listening}
use Rattle.plain_tables.specs.declared.description.Object.TheVariants as plain_object
use Rattle.plain_tables.specs.Tables.{Listeners}
use Rattle.plain_machine.specs.declared.kernel.PlainKernel.{PlainKernel}
use Rattle.plain_machine.specs.Rows.Sockets as rows
use Rattle.virt_ids.proofs.PairLaws.{AreInverse-insert}
use Rattle.wire_channels.specs.declared.listener.Listener.{Listener}
use Rattle.wire_channels.specs.Listeners as listeners
use Rattle.host_descriptors.specs.OfHostTables.declared.kernel.Kernel.{Kernel}
use Rattle.host_descriptors.specs.OfHostTables.Datagrams.{inbox_of}
use Rattle.host_descriptors.specs.OfHostTables.Descriptions.{Names, Addresses, address_of, nowhere, seen_desc, IsTold}
use Rattle.host_descriptors.specs.OfHostTables.Network.{Ports, SameListener, SameListeners}
use Rattle.host_descriptors.specs.OfHostTables.Numbers.{node_of}
use Rattle.host_descriptors.specs.OfHostTables.Stands.{Given, Stands, with_place, with_name}
use Rattle.host_descriptors.proofs.OfHostTables.DescriptionChanges.{IsStillTold, SameDescriptions-put, SameInboxes-put}
use Rattle.host_descriptors.proofs.OfHostTables.ListenerChanges.{SameDirections-listeners}
use Rattle.host_descriptors.proofs.OfHostTables.Ways.{lead_place}
use Rattle.host_descriptors.specs.declared.held.Held.{Held}
use Rattle.host_descriptors.specs.Held.{seen_held}
use Rattle.host_sockets.specs.Changes.{with_listener}
use Rattle.host_sockets.proofs.PlacesListened.{IsNewPlace}

-- a listener at a new place

module _ (nodes : List ℕ) (addresses : Addresses) (ports : Ports) (virt : Listeners)
    (real : listeners.Listeners)
    (same : SameListeners nodes addresses ports virt real) (a : VirtAddr) (at : RealAddr)
    (no_address : map.get addresses a ≡ None) (no_port : map.get ports at ≡ None)
    (no_virt : map.get virt a ≡ None) (no_real : map.get real at ≡ None)
    (node : at.node ≡ node_of nodes a.host) where
  abbrev addresses' : Addresses
  addresses' = map.insert addresses a at

  abbrev ports' : Ports
  ports' = map.insert ports at a

  here : map.get addresses' a ≡ Some at
  here = get_insert_same address_total address_exact addresses a at

  beside : (b : VirtAddr) → b ≢ a → map.get addresses' b ≡ map.get addresses b
  beside b differ = get_insert_other address_total address_exact addresses a at b differ

  port_here : map.get ports' at ≡ Some a
  port_here = get_insert_same real_address_total real_address_exact ports at a

  was : (b : VirtAddr) (to : RealAddr) → map.get addresses' b ≡ Some to
      → ((b ≡ a) × (to ≡ at)) ⊎ (map.get addresses b ≡ Some to)
  was b to is = elim (same_or_other address_total address_exact b a) [
    | inl same ↦ inl (same, same_Some to at (sym is ∙ ap (map.get addresses') same ∙ here))
    | inr differ ↦ inr (sym (beside b differ) ∙ is)
  ]

  none_was : (b : VirtAddr) → map.get addresses' b ≡ None → map.get addresses b ≡ None
  none_was b none = elim (same_or_other address_total address_exact b a) [
    | inl same ↦ absurd (none-some at (sym none ∙ ap (map.get addresses') same ∙ here))
    | inr differ ↦ sym (beside b differ) ∙ none
  ]

  no_port_was : (to : RealAddr) → map.get ports' to ≡ None → map.get ports to ≡ None
  no_port_was to none = elim (same_or_other real_address_total real_address_exact to at) [
    | inl same ↦ absurd (none-some a (sym none ∙ ap (map.get ports') same ∙ port_here))
    | inr differ ↦
        sym (get_insert_other real_address_total real_address_exact ports at a to differ) ∙ none
  ]

  more_places : SeenBy (map.get addresses') (map.get ports') SameListener virt real
  more_places =
      grown address_total address_exact real_address_total real_address_exact (map.get addresses)
      (map.get ports)
      (lead_place addresses ports same.inverse) SameListener (map.get addresses') (map.get ports')
      SameListener
      virt real same.each
      (λ b to leads. elim (was b to leads) [
        | inl new ↦ inr (ap (map.get virt) new.0 ∙ no_virt, ap (map.get real) new.1 ∙ no_real)
        | inr before ↦ inl before
      ])
      (λ b to x y leads e f is. is) none_was no_port_was

  pub SameListeners-made : (x : Listening) (y : Listener) → SameListener a at x y
      → SameListeners nodes addresses' ports' (map.insert virt a x) (map.insert real at y)
  SameListeners-made x y is =
      let inverse =
      AreInverse-insert address_total address_exact real_address_total real_address_exact addresses ports a at
      same.inverse no_address no_port in
      record {
        inverse = inverse;
        node = λ b to leads. elim (was b to leads) [
          | inl new ↦ ap (λ (q : RealAddr). q.node) new.1 ∙ node
              ∙ ap (λ (q : VirtAddr). node_of nodes q.host) (sym new.0)
          | inr before ↦ same.node b to before
        ];
        each = SeenBy-insert address_total address_exact real_address_total real_address_exact
            (map.get addresses') (map.get ports') (lead_place addresses' ports' inverse) SameListener virt
            real
            more_places a at here x y is;
      }

-- a description that is there, changed

pub changed_there : (f : Desc → Desc) (b : Books) (id : DescId) (d : Desc) → map.get b.descriptions id
    ≡ Some d
    → with_changed f b id ≡ record b { descriptions = map.insert b.descriptions id (f d) }
unfolding with_changed
changed_there f b id d is = ap (changed_or_same f b id) is

-- other descriptions, once a socket has a name and its address a port

module _ (names : Names) (addresses : Addresses) (id : DescId) (a : VirtAddr) (at : RealAddr)
    (no_address : map.get addresses a ≡ None) where
  abbrev names' : Names
  names' = map.insert names id a

  same_name : (q : DescId) → q ≢ id → map.get names' q ≡ map.get names q
  same_name q differ = get_insert_other desc_total desc_exact names id a q differ

  same_address : (q : DescId) → q ≢ id → address_of names' q ≡ address_of names q
  same_address q differ = ap (λ o. unwrap_or o nowhere) (same_name q differ)

  place_kept : (b : VirtAddr) (to : RealAddr) → map.get addresses b ≡ Some to
      → map.get (map.insert addresses a at) b ≡ Some to
  place_kept b to is =
      get_insert_other address_total address_exact addresses a at b
      (λ same. none-some to (sym no_address ∙ ap (map.get addresses) (sym same) ∙ is)) ∙ is

  still_told : (pairs : Pairs) (q : DescId) (o : Object) → q ≢ id → IsTold names addresses pairs q o
      → IsStillTold names names' (map.insert addresses a at) pairs pairs q o
  still_told pairs q object.Console differ told = record { same = refl; told = tt }
  still_told pairs q (object.File number offset) differ told = record { same = refl; told = tt }
  still_told pairs q (object.Stream conn side) differ told = record { same = refl; told = tt }
  still_told pairs q object.Socket differ told =
      record {
        same = ap plain_object.Socket (same_address q differ);
        told = ap is_some (same_name q differ) ∙ told;
      }
  still_told pairs q (object.Listener to) differ told =
      record {
        same = ap plain_object.Listener (same_address q differ);
        told = (
          ap is_some (same_name q differ) ∙ told.0,
          place_kept (address_of names' q) to (ap (map.get addresses) (same_address q differ) ∙ told.1),
        );
      }
  still_told pairs q (object.Datagram queue side) differ told = record { same = refl; told = told }
  still_told pairs q (object.Counter value) differ told = record { same = refl; told = tt }

-- the kernel after it

module _ (g : Given) (real : Kernel) (k : PlainKernel) (st : Stands g None real k) (h : Held)
    (there : map.get real.book.descriptions h.desc ≡ Some h.description)
    (socket : h.description.object ≡ object.Socket) (a : VirtAddr) (at : RealAddr)
    (new : IsNewPlace g real k a at) (free : map.get real.net.listeners at ≡ None) (backlog : ℕ) where
  abbrev pub given : Given
  given = with_place (with_name g h.desc a) a at

  abbrev d : Desc
  d = with_object (object.Listener at) h.description

  own_address : address_of given.names h.desc ≡ a
  own_address = ap (λ o. unwrap_or o nowhere) (get_insert_same desc_total desc_exact g.names h.desc a)

  own_told : IsTold given.names given.addresses real.datagrams h.desc d.object
  own_told = (
    ap is_some (get_insert_same desc_total desc_exact g.names h.desc a),
    ap (map.get given.addresses) own_address ∙ get_insert_same address_total address_exact g.addresses a at,
  )

  no_end : (queue side : ℕ)
      → option_map (λ (e : Desc). e.object) (map.get real.book.descriptions h.desc)
      ≡ Some (object.Datagram queue side) → d.object ≡ object.Datagram queue side
  no_end queue side is =
      absurd (apart (sym socket ∙ same_Some _ _ (sym (ap (option_map (λ (e : Desc). e.object)) there) ∙ is)))
    where
      apart : object.Socket ≡ object.Datagram queue side → ⊥
      apart e = cc

  made : (k' : PlainKernel)
      → k' ≡ record k {
        descriptions = map.insert k.descriptions h.desc
            (seen_desc given.virts given.names real.datagrams None h.desc d);
        listeners = map.insert k.listeners a (record { backlog = max 1 (min backlog 128); queue = [] });
      }
      → Stands given None (record real {
        book = record real.book { descriptions = map.insert real.book.descriptions h.desc d };
        net = record real.net {
          listeners = map.insert real.net.listeners at (listeners.new_listener (max 1 (min backlog 128)));
        };
      }) k'
  made k' is =
      subst (Stands given None (record real {
        book = record real.book { descriptions = map.insert real.book.descriptions h.desc d };
        net = record real.net {
          listeners = map.insert real.net.listeners at (listeners.new_listener (max 1 (min backlog 128)));
        };
      })) (sym is) (record {
        paired = st.paired;
        numbered = st.numbered;
        processes = st.processes;
        descriptors = st.descriptors;
        descriptions = SameDescriptions-put g.virts g.names given.names g.addresses given.addresses
            real.datagrams
            real.datagrams None k.descriptions real.book.descriptions st.descriptions h.desc d
            (λ q e differ at_q. still_told g.names g.addresses h.desc a at new.no_address real.datagrams q
            e.object
            differ (st.descriptions.objects q e at_q))
            (st.descriptions.owners h.desc h.description there) own_told;
        inboxes = SameInboxes-put real.datagrams k.inboxes real.book.descriptions st.inboxes h.desc d
            (ap (option_and_then (λ (e : Desc). inbox_of real.datagrams e.object)) there
            ∙ ap (inbox_of real.datagrams) socket) no_end;
        files = st.files;
        channels = st.channels;
        directions = SameDirections-listeners real.net
            (map.insert real.net.listeners at (listeners.new_listener (max 1 (min backlog 128)))) None k.directions
            st.directions;
        listeners = SameListeners-made real.nodes g.addresses g.ports k.listeners real.net.listeners
            st.listeners
            a at new.no_address new.no_port new.no_listening free new.node
            (record { backlog = max 1 (min backlog 128); queue = [] })
            (listeners.new_listener (max 1 (min backlog 128))) (record { backlog = refl; queue = refl });
      })

  pub listens : Stands given None (with_listener real h at (max 1 (min backlog 128)))
      (rows.listening k (seen_held g real h) a backlog)
  listens =
      subst (λ (b : Books). Stands given None (record real {
        book = b;
        net = record real.net {
          listeners = map.insert real.net.listeners at (listeners.new_listener (max 1 (min backlog 128)));
        };
      }) (rows.listening k (seen_held g real h) a backlog))
      (sym (changed_there (with_object (object.Listener at)) real.book h.desc h.description there))
      (made (rows.listening k (seen_held g real h) a backlog)
      (ap (λ (b : VirtAddr). record k {
        descriptions = map.insert k.descriptions h.desc
            (record (seen_held g real h).description { object = plain_object.Listener b });
        listeners = map.insert k.listeners a (record { backlog = max 1 (min backlog 128); queue = [] });
      }) (sym own_address)))

-- What a release takes out of the tables is what the kernel part lost.
--     AreTold book closed      the description that went, and its object
--     cleaned                  the tables after a release
use Rattle.std.proofs.Common.{◌≡◌, ℕ, ◌^◌, ◌<◌, Bool, true, false, cond, List, [], Option, Some, None, inl, inr, refl, sym, ap, ◌∙◌, subst, arith}
use Rattle.std.specs.Prelude.{length, nat_lt, IsSome, is_some, IfSome, IfNone, option_map, unwrap_or}
use Rattle.std.specs.FinMap as map
use Rattle.std.proofs.lemmas.Bool.Decides.{nat_tests}
use Rattle.std.proofs.lemmas.Option.{none-some}
use Rattle.views.specs.Seen.{Agree}
use Rattle.views.proofs.MapLaws.{same_or_other, get_remove_same, get_remove_other}
use Rattle.sys_abi.specs.declared.identity.ConnId.{ConnId}
use Rattle.sys_abi.specs.declared.identity.DescId.{DescId}
use Rattle.sys_abi.specs.declared.identity.RealAddr.{RealAddr}
use Rattle.sys_abi.specs.declared.identity.VirtAddr.{VirtAddr}
use Rattle.sys_abi.proofs.OrderLaws.{desc_total, desc_exact, address_total, address_exact}
use Rattle.conn_table.specs.Conns.{after_end}
use Rattle.conn_table.specs.declared.table.ConnTable.{ConnTable}
use Rattle.fd_book.specs.Books.{Books}
use Rattle.fd_tables.specs.declared.description.Desc.{Desc}
use Rattle.fd_tables.specs.declared.description.Object.{Object}
use Rattle.fd_tables.specs.declared.description.Object.TheVariants as object
use Rattle.plain_tables.specs.declared.channel.Listening.{Listening}
use Rattle.plain_tables.specs.declared.description.Description.{Description}
use Rattle.plain_tables.specs.declared.description.Object as plain
use Rattle.plain_tables.specs.Closing.{closed_channels, pending_channels}
use Rattle.plain_tables.specs.Tables.{Channels, Descriptions, Listeners}
use Rattle.plain_machine.specs.declared.kernel.PlainKernel.{PlainKernel}
use Rattle.wire_channels.specs.declared.listener.Listener.{Listener}
use Rattle.wire_net.specs.Networks.{waiting_at}
use Rattle.host_descriptors.specs.declared.closing.Closed.{Closed}
use Rattle.host_tables.specs.declared.kernel.Kernel.{Kernel}
use Rattle.host_tables.specs.declared.system.System.{System}
use Rattle.host_tables.specs.Descriptions.{nowhere, address_of, seen_object, seen_desc, IsTold}
use Rattle.host_tables.specs.Network.{Conns, SameListener}
use Rattle.host_tables.specs.Stands.{Given, Stands}
use Rattle.host_tables.specs.Systems.{given_of, is_named_in}
use Rattle.virt_ids.specs.Pairs.{Pairs}
use Rattle.wrap_names.specs.Wrapping.{IsWrapped}
use Rattle.wrap_names.proofs.Callers.{mapped_some}
use Rattle.wrap_ends.specs.Forgetting.{HasForgotten, queue_of, ends_after, ids_after, without_side, without_place, without_waiting}
use Rattle.wrap_ends.proofs.Cleaned.{IsClean}
use Rattle.wrap_ends.proofs.ConnEnds.{AreEnds, AreFewer, fewer_self, end_fewer, end_closed, ends_fewer, ends_closed}
use Rattle.wrap_ends.proofs.FewerConns.{real_ends}
use Rattle.wrap_ends.proofs.FewerPlaces.{ArePlaces, places_self, place_gone}
use Rattle.wrap_ends.proofs.Lost.{HasKept, HasLost, LosesWith, queue_in}

abbrev pub AreTold : Books → Option Closed → Type 0
AreTold b closed =
    IfSome closed (λ c. option_map (λ (d : Desc). d.object) (map.get b.descriptions c.desc) ≡ Some c.object)

module _ (s : System) (next_id : ℕ) (k : PlainKernel) (w : IsWrapped s next_id k) where
  abbrev g : Given
  g = given_of s

  st : Stands g None s.kernel k
  st = w.stands.tables

  old_ends : AreEnds s.conns.conns k.channels
  old_ends id = w.stands.exact.open_ends id ∙ sym (real_ends g s.kernel k st id)

  -- a description with its object
  module _ (id : DescId) (d : Desc) (is : map.get s.kernel.book.descriptions id ≡ Some d) where
    abbrev seen : Object → Description
    seen o = record (seen_desc g.virts g.names s.kernel.datagrams None id d) {
      object = seen_object g.names s.kernel.datagrams id o;
    }

    seen_there : map.get k.descriptions id ≡ Some (seen d.object)
    seen_there =
        st.descriptions.each id ∙ ap (option_map (seen_desc g.virts g.names s.kernel.datagrams None id)) is

    a_side : (conn : ConnId) (side : ℕ) → d.object ≡ object.Stream conn side → side < 2
    a_side conn side same =
        (w.stands.kernel.streams.each id (seen (object.Stream conn side))
        (seen_there ∙ ap (λ o. Some (seen o)) same)).2.is_side

    -- a listener
    module _ (at : RealAddr) (same : d.object ≡ object.Listener at) where
      abbrev its_address : VirtAddr
      its_address = address_of g.names id

      told : IsTold g.names g.addresses s.kernel.datagrams id (object.Listener at)
      told =
          subst (λ o. IsTold g.names g.addresses s.kernel.datagrams id o) same
          (st.descriptions.objects id d is)

      name_by : (o : Option VirtAddr) → IsSome o → o ≡ Some (unwrap_or o nowhere)
      name_by None some = let e : false ≡ true = some in cc
      name_by (Some a) some = refl

      name_is : map.get s.conns.names id ≡ Some its_address
      name_is = name_by (map.get s.conns.names id) told.0

      same_queue : (o : Option Listening) (q : Option Listener) → Agree (SameListener its_address at) o q
          → waiting_at q ≡ queue_in o
      same_queue None None is = refl
      same_queue None (Some y) is = absurd is
      same_queue (Some x) None is = absurd is
      same_queue (Some x) (Some y) is = sym is.queue

      queue_is : waiting_at (map.get s.kernel.net.listeners at) ≡ queue_in (map.get k.listeners its_address)
      queue_is =
          same_queue (map.get k.listeners its_address) (map.get s.kernel.net.listeners at)
          (st.listeners.each.at its_address at told.1)

      short_by : (o : Option Listening) → map.get k.listeners its_address ≡ o → length (queue_in o) < 2 ^ 32
      short_by None e = short_nothing
        where
          short_nothing : length {A = ConnId} [] < 2 ^ 32
          short_nothing = omega arith
      short_by (Some x) e =
          let listening = w.stands.kernel.listeners.each its_address x e in
          let room = listening.room in
          let few = listening.backlog in
          omega (arith, room, few)

      short : length (waiting_at (map.get s.kernel.net.listeners at)) < 2 ^ 32
      short =
          subst (λ (q : List ConnId). length q < 2 ^ 32) (sym queue_is)
          (short_by (map.get k.listeners its_address) refl)

    short_queue : (o : Object) → d.object ≡ o → length (queue_of s.kernel.net.listeners o) < 2 ^ 32
    short_queue (object.Listener at) same = short at same
    short_queue object.Console same = omega arith
    short_queue (object.File number offset) same = omega arith
    short_queue (object.Stream conn side) same = omega arith
    short_queue object.Socket same = omega arith
    short_queue (object.Datagram queue side) same = omega arith
    short_queue (object.Counter value) same = omega arith

    -- the tables by its object
    record HasLess (k' : PlainKernel) (conns' : Conns) (ids' : Pairs) : Type 0 where
      pids : ids'.pids ≡ s.ids.pids
      virts : ids'.virts ≡ s.ids.virts
      fewer : AreFewer conns' s.conns.conns
      ends : AreEnds conns' k'.channels
      places : ArePlaces s.ids.addresses ids'.addresses ids'.ports k'
      listed : (a : VirtAddr) (at : RealAddr) → map.get ids'.addresses a ≡ Some at
          → IsSome (map.get k'.listeners a)

    module _ (k' : PlainKernel) where
      -- nothing but the description
      module _ (listeners : k'.listeners ≡ k.listeners) where
        listed_still : (a : VirtAddr) (at : RealAddr) → map.get s.ids.addresses a ≡ Some at
            → IsSome (map.get k'.listeners a)
        listed_still a at is =
            subst (λ (m : Listeners). IsSome (map.get m a)) (sym listeners) (w.stands.exact.places a at is)

        with_ends : (conns' : Conns) → AreFewer conns' s.conns.conns → AreEnds conns' k'.channels
            → HasLess k' conns' s.ids
        with_ends conns' fewer ends = record {
          pids = refl;
          virts = refl;
          fewer = fewer;
          ends = ends;
          places = places_self s.ids.addresses s.ids.ports k' st.listeners.inverse;
          listed = listed_still;
        }

        alone : k'.channels ≡ k.channels → HasLess k' s.conns.conns s.ids
        alone channels =
            with_ends s.conns.conns (fewer_self s.conns.conns)
            (subst (λ (m : Channels). AreEnds s.conns.conns m) (sym channels) old_ends)

        stream : (conn : ConnId) (side : ℕ) → d.object ≡ object.Stream conn side
            → k'.channels ≡ closed_channels k.channels conn side
            → HasLess k' (without_side s.conns.conns conn side) s.ids
        stream conn side same channels =
            let low = a_side conn side same in
            let is_low : nat_lt side 2 ≡ true = grind (arith, nat_tests, low) in
            subst (λ (b : Bool). HasLess k' (cond b (after_end side s.conns.conns conn) s.conns.conns) s.ids)
            (sym is_low)
            (with_ends (after_end side s.conns.conns conn) (end_fewer s.conns.conns conn side)
            (subst (λ (m : Channels). AreEnds (after_end side s.conns.conns conn) m) (sym channels)
            (end_closed s.conns.conns k.channels conn side low old_ends)))

      -- a listener, with the connections that wait there
      module _ (at : RealAddr) (same : d.object ≡ object.Listener at)
          (listeners : k'.listeners ≡ map.remove k.listeners (its_address at same))
          (channels : k'.channels
          ≡ pending_channels k.channels (queue_in (map.get k.listeners (its_address at same)))) where
        abbrev queue : List ConnId
        queue = waiting_at (map.get s.kernel.net.listeners at)

        abbrev gone : VirtAddr
        gone = its_address at same

        nobody : map.get k'.listeners gone ≡ None
        nobody =
            ap (λ (m : Listeners). map.get m gone) listeners
            ∙ get_remove_same address_total address_exact k.listeners gone

        still_listed : (a : VirtAddr) (there : RealAddr)
            → map.get (map.remove s.ids.addresses gone) a ≡ Some there
            → IsSome (map.get k'.listeners a)
        still_listed a there is = elim (same_or_other address_total address_exact a gone) [
          | inl here ↦ absurd (none-some there
              (sym (get_remove_same address_total address_exact s.ids.addresses gone)
              ∙ ap (map.get (map.remove s.ids.addresses gone)) (sym here) ∙ is))
          | inr differ ↦
              ap is_some (ap (λ (m : Listeners). map.get m a) listeners
              ∙ get_remove_other address_total address_exact k.listeners gone a differ)
              ∙ w.stands.exact.places a there
              (sym (get_remove_other address_total address_exact s.ids.addresses gone a differ) ∙ is)
        ]

        listener : HasLess k' (without_waiting s.conns.conns queue)
            (without_place s.ids (map.get s.conns.names id))
        listener =
            subst (λ o. HasLess k' (without_waiting s.conns.conns queue) (without_place s.ids o))
            (sym (name_is at same)) (record {
              pids = refl;
              virts = refl;
              fewer = ends_fewer queue s.conns.conns;
              ends = subst (λ (m : Channels). AreEnds (without_waiting s.conns.conns queue) m) (sym channels)
                  (subst (λ (q : List ConnId). AreEnds (without_waiting s.conns.conns queue)
                  (pending_channels k.channels q)) (queue_is at same)
                  (ends_closed queue s.conns.conns k.channels old_ends));
              places = place_gone s.ids.addresses s.ids.ports k' st.listeners.inverse gone nobody;
              listed = still_listed;
            })

      less_by : (o : Object) → d.object ≡ o
          → HasLost k k' id (seen_object g.names s.kernel.datagrams id o)
          → HasLess k' (ends_after s.kernel.net.listeners s.conns.conns o)
          (ids_after s.conns.names s.ids id o)
      less_by object.Console same lost = alone lost.listeners lost.channels
      less_by (object.File number offset) same lost = alone lost.listeners lost.channels
      less_by (object.Stream conn side) same lost = stream lost.listeners conn side same lost.channels
      less_by object.Socket same lost = alone lost.listeners lost.channels
      less_by (object.Listener at) same lost = listener at same lost.listeners lost.channels
      less_by (object.Datagram number side) same lost = alone lost.listeners lost.channels
      less_by (object.Counter value) same lost = alone lost.listeners lost.channels

      -- its name goes
      module _ (o : plain.Object) (lost : HasLost k k' id o) where
        gone_there : map.get k'.descriptions id ≡ None
        gone_there =
            ap (λ (m : Descriptions). map.get m id) lost.descriptions
            ∙ get_remove_same desc_total desc_exact k.descriptions id

        named_still : (q : DescId) (a : VirtAddr) → map.get (map.remove s.conns.names id) q ≡ Some a
            → is_named_in (map.get k'.descriptions q) ≡ true
        named_still q a is = elim (same_or_other desc_total desc_exact q id) [
          | inl here ↦ absurd (none-some a (sym (get_remove_same desc_total desc_exact s.conns.names id)
              ∙ ap (map.get (map.remove s.conns.names id)) (sym here) ∙ is))
          | inr differ ↦
              ap is_named_in (ap (λ (m : Descriptions). map.get m q) lost.descriptions
              ∙ get_remove_other desc_total desc_exact k.descriptions id q differ)
              ∙ w.stands.exact.names q a
              (sym (get_remove_other desc_total desc_exact s.conns.names id q differ) ∙ is)
        ]

        same_name : (new : Kernel) → Stands g None new k' → (q : DescId) (e : Desc)
            → map.get new.book.descriptions q ≡ Some e
            → map.get (map.remove s.conns.names id) q ≡ map.get s.conns.names q
        same_name new stands q e is = elim (same_or_other desc_total desc_exact q id) [
          | inl here ↦ absurd (none-some (seen_desc g.virts g.names new.datagrams None q e)
              (sym gone_there ∙ ap (map.get k'.descriptions) (sym here) ∙ stands.descriptions.each q
              ∙ ap (option_map (seen_desc g.virts g.names new.datagrams None q)) is))
          | inr differ ↦ get_remove_other desc_total desc_exact s.conns.names id q differ
        ]

  -- a system that has forgotten it
  module _ (k' : PlainKernel) (b : Books) (s' : System) (stands : Stands g None s'.kernel k') where
    abbrev between : System
    between = record s { kernel = record s.kernel { book = b } }

    nothing : HasKept k k' → IsClean s between k'
    nothing kept = record {
      pids = refl;
      virts = refl;
      makers = refl;
      fewer = fewer_self s.conns.conns;
      ends = subst (λ (m : Channels). AreEnds s.conns.conns m) (sym kept.channels) old_ends;
      places = places_self s.ids.addresses s.ids.ports k' st.listeners.inverse;
      listed = λ a at is.
          subst (λ (m : Listeners). IsSome (map.get m a)) (sym kept.listeners)
          (w.stands.exact.places a at is);
      names = λ id a is.
          ap (λ (m : Descriptions). is_named_in (map.get m id)) kept.descriptions
          ∙ w.stands.exact.names id a is;
      named = λ id d is. refl;
    }

    module _ (c : Closed) (forgotten : HasForgotten between s' c)
        (lost : HasLost k k' c.desc (seen_object g.names s.kernel.datagrams c.desc c.object)) (d : Desc)
        (there : map.get s.kernel.book.descriptions c.desc ≡ Some d) (same : d.object ≡ c.object) where
      conns_are : s'.conns ≡ record s.conns {
        conns = ends_after s.kernel.net.listeners s.conns.conns c.object;
        names = map.remove s.conns.names c.desc;
      }
      conns_are = forgotten.conns (short_queue c.desc d there c.object same)

      less : HasLess c.desc d there k' s'.conns.conns s'.ids
      less =
          subst (λ (m : ConnTable). HasLess c.desc d there k' m.conns s'.ids) (sym conns_are)
          (subst (λ (ids : Pairs). HasLess c.desc d there k'
          (ends_after s.kernel.net.listeners s.conns.conns c.object) ids) (sym forgotten.ids)
          (less_by c.desc d there k' c.object same lost))

      names_are : s'.conns.names ≡ map.remove s.conns.names c.desc
      names_are = ap (λ (m : ConnTable). m.names) conns_are

      all_gone : IsClean s s' k'
      all_gone =
          let o = seen_object g.names s.kernel.datagrams c.desc c.object in
          record {
            pids = less.pids;
            virts = less.virts;
            makers = ap (λ (m : ConnTable). m.makers) conns_are;
            fewer = less.fewer;
            ends = less.ends;
            places = less.places;
            listed = less.listed;
            names = λ q a is.
                named_still c.desc d there k' o lost q a (ap (λ m. map.get m q) (sym names_are) ∙ is);
            named = λ q e is.
                ap (λ m. map.get m q) names_are ∙ same_name c.desc d there k' o lost s'.kernel stands q e is;
          }

    pub cleaned : (closed : Option Closed) → LosesWith g s.kernel k k' closed → AreTold s.kernel.book closed
        → IfSome closed (HasForgotten between s') → IfNone closed (s' ≡ between) → IsClean s s' k'
    cleaned None loses is_told forgets stays =
        subst (λ (x : System). IsClean s x k') (sym stays) (nothing loses)
    cleaned (Some c) loses is_told forgets stays =
        let d = mapped_some (λ (x : Desc). x.object) (map.get s.kernel.book.descriptions c.desc) c.object
        is_told in
        all_gone c forgets loses d.0 d.1.0 d.1.1

-- A port is used by the table of channels as it is by the kernel part.
--     port_used_is
use Rattle.std.proofs.Common.{◌≡◌, ℕ, suc, ◌≤◌, Bool, true, false, ◌||◌, cond, List, [], ◌∷◌, Option, Some, None, refl, sym, ap, ◌∙◌, arith}
use Rattle.std.specs.Prelude.{◌==◌, length, slice_index_or, is_some, option_map, unwrap_or}
use Rattle.std.specs.List.{list_any}
use Rattle.std.specs.Ordering.{eq_by_cmp}
use Rattle.std.specs.FinMap as map
use Rattle.std.proofs.lemmas.Bool.Decides.{nat_tests}
use Rattle.std.proofs.lemmas.Option.{none-some, same_Some}
use Rattle.views.proofs.MapLaws.{true_false, same_key}
use Rattle.sys_abi.specs.declared.identity.ConnId.{ConnId}
use Rattle.sys_abi.specs.declared.identity.DescId.{DescId}
use Rattle.sys_abi.specs.declared.identity.VirtAddr.{VirtAddr}
use Rattle.sys_abi.specs.Orders.{address_cmp}
use Rattle.sys_abi.proofs.OrderLaws.{desc_total, desc_exact, conn_total, conn_exact, address_total, address_exact}
use Rattle.conn_table.specs.declared.conn.Conn.{Conn}
use Rattle.conn_table.specs.Conns as conns
use Rattle.fd_tables.specs.declared.description.Desc.{Desc}
use Rattle.fd_tables.specs.declared.description.Object.{Object}
use Rattle.fd_tables.specs.declared.description.Object.TheVariants as real
use Rattle.plain_tables.specs.declared.channel.Channel.{Channel}
use Rattle.plain_tables.specs.declared.description.Description.{Description}
use Rattle.plain_tables.specs.declared.description.Object as plain_object
use Rattle.plain_tables.specs.declared.description.Object.TheVariants.{Socket}
use Rattle.plain_tables.specs.Objects.{bound_at}
use Rattle.plain_machine.specs.declared.kernel.PlainKernel.{PlainKernel}
use Rattle.plain_machine.specs.Addresses.{is_at, has_end_at, is_port_used}
use Rattle.wire_channels.specs.declared.channel.Channel as wire
use Rattle.host_streams.specs.OfHostTables.declared.system.System.{System}
use Rattle.host_streams.specs.OfHostTables.Descriptions.{address_of, nowhere, seen_object, seen_desc, IsTold}
use Rattle.host_streams.specs.OfHostTables.Network.{seen_channel}
use Rattle.host_streams.specs.OfHostTables.Stands.{Given}
use Rattle.host_streams.specs.OfHostTables.Systems.{given_of, has_own_name, is_named_in}
use Rattle.wrap_names.specs.Wrapping.{IsWrapped}
use Rattle.wrap_names.proofs.Alike.{HoldsThere, any_alike}
use Rattle.wrap_names.proofs.Ends.{channel_some, channel_none}

module _ (s : System) (next_id : ℕ) (k : PlainKernel) (w : IsWrapped s next_id k) (a : VirtAddr) where
  abbrev g : Given
  g = given_of s

  -- channels

  at_alike : (o : Option VirtAddr) → conns.is_at a o ≡ is_at a o
  at_alike None = refl
  at_alike (Some b) = refl

  last : (b c : Bool) → (b || (c || false)) ≡ (b || c)
  last true c = refl
  last false true = refl
  last false false = refl

  two_ends : (ends : List (Option VirtAddr)) → length ends ≡ 2
      → list_any (conns.is_at a) ends
      ≡ (is_at a (slice_index_or ends 0 None) || is_at a (slice_index_or ends 1 None))
  two_ends (x ∷ y ∷ []) two =
      (λ i. at_alike x i || (at_alike y i || false)) ∙ last (is_at a x) (is_at a y)
  two_ends [] two = absurd (let e : 0 ≡ 2 = two in omega (arith, e))
  two_ends (x ∷ []) two = absurd (let e : 1 ≡ 2 = two in omega (arith, e))
  two_ends (x ∷ y ∷ z ∷ rest) two =
      absurd (let e : suc (suc (suc (length rest))) ≡ 2 = two in omega (arith, e))

  same_ends : (id : ConnId) (conn : Conn) (c : wire.Channel) → map.get s.conns.conns id ≡ Some conn
      → conns.has_address a conn ≡ has_end_at a (seen_channel c conn)
  same_ends id conn c is = two_ends conn.addr (w.stands.exact.entries id conn is).addresses

  to_channel : HoldsThere conn_total conn_exact s.conns.conns k.channels (conns.has_address a) (has_end_at a)
  to_channel id conn is holds =
      let there = channel_some s next_id k w id conn is in
      (seen_channel there.0 conn, (there.1, sym (same_ends id conn there.0 is) ∙ holds))

  entry_by : (id : ConnId) (x : Channel) → map.get k.channels id ≡ Some x → has_end_at a x ≡ true
      → (o : Option Conn) → map.get s.conns.conns id ≡ o
      → (conn : Conn) × ((map.get s.conns.conns id ≡ Some conn) × (conns.has_address a conn ≡ true))
  entry_by id x at holds None is = absurd (none-some x (sym (channel_none s next_id k w id is) ∙ at))
  entry_by id x at holds (Some conn) is =
      let there = channel_some s next_id k w id conn is in
      let same = same_Some (seen_channel there.0 conn) x (sym there.1 ∙ at) in
      (conn, (is, same_ends id conn there.0 is ∙ ap (has_end_at a) same ∙ holds))

  from_channel : HoldsThere conn_total conn_exact k.channels s.conns.conns (has_end_at a)
      (conns.has_address a)
  from_channel id x at holds = entry_by id x at holds (map.get s.conns.conns id) refl

  -- descriptions

  abbrev address_or : Option VirtAddr → VirtAddr
  address_or o = unwrap_or o nowhere

  abbrev is_bound : Description → Bool
  is_bound x = is_at a (bound_at x.object)

  abbrev seen : DescId → Object → plain_object.Object
  seen id o = seen_object s.conns.names s.kernel.datagrams id o

  told_by : (id : DescId) (d : Desc) → map.get s.kernel.book.descriptions id ≡ Some d
      → map.get k.descriptions id ≡ Some (seen_desc g.virts g.names s.kernel.datagrams None id d)
  told_by id d is =
      w.stands.tables.descriptions.each id
      ∙ ap (option_map (seen_desc g.virts g.names s.kernel.datagrams None id)) is

  untold : (id : DescId) → map.get s.kernel.book.descriptions id ≡ None → map.get k.descriptions id ≡ None
  untold id is =
      w.stands.tables.descriptions.each id
      ∙ ap (option_map (seen_desc g.virts g.names s.kernel.datagrams None id)) is

  module _ (port : 1 ≤ a.port) where
    tied : (b : VirtAddr) → eq_by_cmp address_cmp a b ≡ true → b ≡ a
    tied b same = sym (same_key address_total address_exact a b same)

    own_test : eq_by_cmp address_cmp a a ≡ true → is_at a (bound_at (Socket a)) ≡ true
    own_test same = by_port (a.port == 0) (grind (arith, nat_tests, port))
      where
        by_port : (b : Bool) → b ≡ false → is_at a (cond b None (Some a)) ≡ true
        by_port true e = true_false e
        by_port false e = same

    -- a named description is bound to its name
    object_bound : (id : DescId) → address_of s.conns.names id ≡ a → eq_by_cmp address_cmp a a ≡ true
        → (o : Object) → has_own_name (seen id o) ≡ true → is_at a (bound_at (seen id o)) ≡ true
    object_bound id own same real.Console h = true_false (sym h)
    object_bound id own same (real.File number offset) h = true_false (sym h)
    object_bound id own same (real.Stream conn side) h = true_false (sym h)
    object_bound id own same real.Socket h = ap (λ b. is_at a (bound_at (Socket b))) own ∙ own_test same
    object_bound id own same (real.Listener at) h = ap (λ b. is_at a (Some b)) own ∙ same
    object_bound id own same (real.Datagram queue side) h = true_false (sym h)
    object_bound id own same (real.Counter value) h = true_false (sym h)

    to_description_by : (id : DescId) → address_of s.conns.names id ≡ a → eq_by_cmp address_cmp a a ≡ true
        → is_named_in (map.get k.descriptions id) ≡ true
        → (o : Option Desc) → map.get s.kernel.book.descriptions id ≡ o
        → (x : Description) × ((map.get k.descriptions id ≡ Some x) × (is_bound x ≡ true))
    to_description_by id own same named None is = true_false (sym named ∙ ap is_named_in (untold id is))
    to_description_by id own same named (Some d) is = (
      seen_desc g.virts g.names s.kernel.datagrams None id d,
      (told_by id d is, object_bound id own same d.object (sym (ap is_named_in (told_by id d is)) ∙ named)),
    )

    to_description : HoldsThere desc_total desc_exact s.conns.names k.descriptions (eq_by_cmp address_cmp a)
        is_bound
    to_description id b is holds =
        let same = tied b holds in
        to_description_by id (ap address_or is ∙ same)
        (ap (eq_by_cmp address_cmp a) (sym same) ∙ holds) (w.stands.exact.names id b is)
        (map.get s.kernel.book.descriptions id) refl

    -- and back
    of_socket : (b : VirtAddr) → is_at a (bound_at (Socket b)) ≡ true → eq_by_cmp address_cmp a b ≡ true
    of_socket b h = by_port (b.port == 0) h
      where
        by_port : (c : Bool) → is_at a (cond c None (Some b)) ≡ true → eq_by_cmp address_cmp a b ≡ true
        by_port true h = true_false (sym h)
        by_port false h = h

    name_there : (id : DescId) → is_some (map.get s.conns.names id) ≡ true
        → map.get s.conns.names id ≡ Some (address_of s.conns.names id)
    name_there id some = by_name (map.get s.conns.names id) some
      where
        by_name : (o : Option VirtAddr) → is_some o ≡ true → o ≡ Some (address_or o)
        by_name None h = true_false (sym h)
        by_name (Some b) h = refl

    object_named : (id : DescId) (o : Object) → IsTold s.conns.names s.ids.addresses s.kernel.datagrams id o
        → is_at a (bound_at (seen id o)) ≡ true
        → (b : VirtAddr) × ((map.get s.conns.names id ≡ Some b) × (eq_by_cmp address_cmp a b ≡ true))
    object_named id real.Console told h = true_false (sym h)
    object_named id (real.File number offset) told h = true_false (sym h)
    object_named id (real.Stream conn side) told h = true_false (sym h)
    object_named id real.Socket told h =
        (address_of s.conns.names id, (name_there id told, of_socket (address_of s.conns.names id) h))
    object_named id (real.Listener at) told h =
        (address_of s.conns.names id, (name_there id told.0, h))
    object_named id (real.Datagram queue side) told h = true_false (sym h)
    object_named id (real.Counter value) told h = true_false (sym h)

    to_name_by : (id : DescId) (x : Description) → map.get k.descriptions id ≡ Some x → is_bound x ≡ true
        → (o : Option Desc) → map.get s.kernel.book.descriptions id ≡ o
        → (b : VirtAddr) × ((map.get s.conns.names id ≡ Some b) × (eq_by_cmp address_cmp a b ≡ true))
    to_name_by id x at holds None is = absurd (none-some x (sym (untold id is) ∙ at))
    to_name_by id x at holds (Some d) is =
        let same = same_Some _ x (sym (told_by id d is) ∙ at) in
        object_named id d.object (w.stands.tables.descriptions.objects id d is) (ap is_bound same ∙ holds)

    to_name : HoldsThere desc_total desc_exact k.descriptions s.conns.names is_bound (eq_by_cmp address_cmp a)
    to_name id x at holds = to_name_by id x at holds (map.get s.kernel.book.descriptions id) refl

    swapped : (b c : Bool) → (b || c) ≡ (c || b)
    swapped true true = refl
    swapped true false = refl
    swapped false true = refl
    swapped false false = refl

    pub port_used_is : conns.is_used a s.conns.conns s.conns.names ≡ is_port_used k a
    unfolding is_port_used
    port_used_is =
        (λ i.
        any_alike conn_total conn_exact s.conns.conns k.channels (conns.has_address a) (has_end_at a)
        to_channel from_channel i
        || any_alike desc_total desc_exact s.conns.names k.descriptions (eq_by_cmp address_cmp a) is_bound
        to_description to_name i)
        ∙ swapped (list_any (has_end_at a) (map.values k.channels))
        (list_any is_bound (map.values k.descriptions))

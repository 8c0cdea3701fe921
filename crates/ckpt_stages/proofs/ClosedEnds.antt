-- An end that nobody names is closed.
--     closed_silent      of a channel of a system that stands for a kernel part, where no description names
--                        an end,
--                        the end sends no more and is not read
use Rattle.std.proofs.Common.{◌≡◌, ◌<◌, ◌≤◌, ◌-◌, ℕ, zero, suc, Bool, true, false, ◌&&◌, ◌||◌, List, [], ◌∷◌, length, Some, None, refl, sym, ap, subst, ◌∙◌, arith}
use Rattle.std.specs.Prelude.{◌==◌, is_some, option_map, slice_index_or}
use Rattle.std.specs.Option.{option_map_or, option_and_then}
use Rattle.std.specs.List.{list_any}
use Rattle.std.specs.Ordering.{eq_by_cmp}
use Rattle.std.specs.FinMap as map
use Rattle.std.proofs.lemmas.List.{take_all}
use Rattle.views.proofs.MapLaws.{true_false, same_key}
use Rattle.views.proofs.MapValues.{none_among-values}
use Rattle.views.proofs.Seen.{agree_found}
use Rattle.sys_abi.specs.declared.identity.ConnId.{ConnId}
use Rattle.sys_abi.specs.declared.identity.DescId.{DescId}
use Rattle.sys_abi.specs.declared.identity.RealAddr.{RealAddr}
use Rattle.sys_abi.specs.declared.identity.VirtAddr.{VirtAddr}
use Rattle.sys_abi.specs.Orders.{conn_cmp, address_cmp}
use Rattle.sys_abi.proofs.OrderLaws.{desc_total, desc_exact, address_total, address_exact}
use Rattle.fd_tables.specs.declared.description.Desc.{Desc}
use Rattle.fd_tables.specs.declared.description.Object.{Object}
use Rattle.fd_tables.specs.declared.description.Object.TheVariants.{Console, File, Stream, Socket, Listener, Datagram, Counter}
use Rattle.conn_table.specs.declared.conn.Conn.{Conn}
use Rattle.plain_tables.specs.declared.channel.Listening.{Listening}
use Rattle.plain_tables.specs.declared.description.Description.{Description}
use Rattle.plain_tables.specs.Objects.{is_end, is_listener_at, is_queued, is_named, end_of}
use Rattle.plain_machine.specs.declared.kernel.PlainKernel.{PlainKernel}
use Rattle.plain_machine.specs.Kernels.{IsKernel}
use Rattle.wire_channels.specs.declared.channel.Channel.{Channel}
use Rattle.host_tables.specs.declared.kernel.Kernel.{Kernel}
use Rattle.host_tables.specs.Descriptions.{address_of, seen_desc, seen_object, IsTold}
use Rattle.host_tables.specs.Network.{SameListener, IsSilent, seen_channel}
use Rattle.host_tables.specs.Stands.{Given, Stands}
use Rattle.host_tables.proofs.LookUps.{some_value}
use Rattle.cut_stages.proofs.OfWrapNames.Callers.{mapped_some}
use Rattle.leader_vote.specs.Agents.{names_end, waits_in}

either_false : (a b : Bool) → a ≡ false → b ≡ false → (a || b) ≡ false
either_false a b e f = λ i. e i || f i

-- what lies in a list does not hang on what lies beyond
default_same : (xs : List Bool) (n : ℕ) → n < length xs → slice_index_or xs n true ≡ slice_index_or xs n false
default_same [] n below = absurd (omega (arith, below))
default_same (x ∷ xs) zero below = refl
default_same (x ∷ xs) (suc n) below =
    let less : suc n < suc (length xs) = below in default_same xs n (omega (arith, less))

open_false : (channel : Channel) (c : Conn) (side : ℕ) → length channel.open_ends ≡ 2 → side < 2
    → (end_of (seen_channel channel c) side).is_open ≡ false → slice_index_or channel.open_ends side true ≡
    false
open_false channel c zero two below is = default_same channel.open_ends 0 (omega (arith, two)) ∙ is
open_false channel c (suc zero) two below is = default_same channel.open_ends 1 (omega (arith, two)) ∙ is
open_false channel c (suc (suc n)) two below is = absurd (omega (arith, below))

module _ (g : Given) (real : Kernel) (k : PlainKernel) (st : Stands g None real k) (whole : IsKernel k)
    (conn : ConnId) (side : ℕ)
    (unnamed : (id : DescId) (d : Desc) → map.get real.book.descriptions id ≡ Some d
    → names_end real.net.listeners conn side d.object ≡ false) where
  -- what stands for a description
  told_by : (id : DescId) (x : Description) → map.get k.descriptions id ≡ Some x
      → (d : Desc) × ((map.get real.book.descriptions id ≡ Some d) × (seen_desc g.virts g.names
      real.datagrams None id d ≡ x))
  told_by id x at =
      mapped_some (seen_desc g.virts g.names real.datagrams None id) (map.get real.book.descriptions id) x
      (sym (st.descriptions.each id) ∙ at)

  same_end : (id : DescId) (o : Object) → names_end real.net.listeners conn side o ≡ false
      → is_end conn side (seen_object g.names real.datagrams id o) ≡ false
  same_end id Console none = refl
  same_end id (File number offset) none = refl
  same_end id (Stream own at) none = none
  same_end id Socket none = refl
  same_end id (Listener at) none = refl
  same_end id (Datagram queue at) none = refl
  same_end id (Counter value) none = refl

  no_stream : list_any (λ (x : Description). is_end conn side x.object) (map.values k.descriptions) ≡ false
  no_stream =
      none_among-values desc_total desc_exact (λ (x : Description). is_end conn side x.object) k.descriptions
      (λ id x at.
      let d = told_by id x at in
      ap (λ (y : Description). is_end conn side y.object) (sym d.1.1) ∙ same_end id d.0.object (unnamed id
      d.0 d.1.0))

  module _ (at_one : (side == 1) ≡ true) (a : VirtAddr) (x : Listening) (at : map.get k.listeners a ≡ Some x)
      (queued : is_queued conn x ≡ true) where
    waits : (port : RealAddr) → map.get g.addresses a ≡ Some port
        → option_map_or (waits_in conn) (map.get real.net.listeners port) false ≡ true
    waits port paired =
        let y = agree_found (SameListener a port) (map.get k.listeners a) (map.get real.net.listeners port) x
        (st.listeners.each.at a port paired) at in
        let queue : x.queue ≡ y.0.queue = y.1.1.queue in
        let backlog : x.backlog ≡ y.0.backlog = y.1.1.backlog in
        let few : length x.queue ≤ x.backlog = (whole.listeners.each a x at).room in
        ap (λ o. option_map_or (waits_in conn) o false) y.1.0
        ∙ ap (list_any (eq_by_cmp conn_cmp conn))
        (take_all y.0.backlog y.0.queue (subst (λ n. length y.0.queue ≤ n) backlog
        (subst (λ q. length q ≤ x.backlog) queue few)))
        ∙ ap (list_any (eq_by_cmp conn_cmp conn)) (sym queue) ∙ queued

    not_there : (id : DescId) (o : Object) → IsTold g.names g.addresses real.datagrams id o
        → names_end real.net.listeners conn side o ≡ false
        → is_listener_at a (seen_object g.names real.datagrams id o) ≡ false
    not_there id Console told none = refl
    not_there id (File number offset) told none = refl
    not_there id (Stream own at) told none = refl
    not_there id Socket told none = refl
    not_there id (Listener port) told none = by (eq_by_cmp address_cmp a (address_of g.names id)) refl
      where
        by : (same : Bool) → eq_by_cmp address_cmp a (address_of g.names id) ≡ same
            → eq_by_cmp address_cmp a (address_of g.names id) ≡ false
        by false is = is
        by true is =
            let here = same_key address_total address_exact a (address_of g.names id) is in
            true_false (sym (λ i. at_one i && waits port (ap (map.get g.addresses) here ∙ told.1) i) ∙ none)
    not_there id (Datagram queue at) told none = refl
    not_there id (Counter value) told none = refl

    none_listens : list_any (λ (y : Description). is_listener_at a y.object) (map.values k.descriptions) ≡
        false
    none_listens =
        none_among-values desc_total desc_exact (λ (y : Description). is_listener_at a y.object)
        k.descriptions
        (λ id y there.
        let d = told_by id y there in
        ap (λ (z : Description). is_listener_at a z.object) (sym d.1.1)
        ∙ not_there id d.0.object (st.descriptions.objects id d.0 d.1.0) (unnamed id d.0 d.1.0))

    impossible : is_queued conn x ≡ false
    impossible =
        true_false (sym (sym (whole.listeners.described a) ∙ ap is_some at) ∙ none_listens)

  not_queued : (side == 1) ≡ true → (a : VirtAddr) (x : Listening) → map.get k.listeners a ≡ Some x
      → is_queued conn x ≡ false
  not_queued at_one a x at = by (is_queued conn x) refl
    where
      by : (queued : Bool) → is_queued conn x ≡ queued → is_queued conn x ≡ false
      by false is = is
      by true is = impossible at_one a x at is

  not_pending : ((side == 1) && list_any (is_queued conn) (map.values k.listeners)) ≡ false
  not_pending = by (side == 1) refl
    where
      by : (one : Bool) → (side == 1) ≡ one
          → ((side == 1) && list_any (is_queued conn) (map.values k.listeners)) ≡ false
      by false is = ap (λ b. b && list_any (is_queued conn) (map.values k.listeners)) is
      by true is = λ i. is i && none_among-values address_total address_exact (is_queued conn) k.listeners
          (not_queued is) i

  nobody_names : is_named k.descriptions k.listeners conn side ≡ false
  nobody_names = either_false _ _ no_stream not_pending

  pub closed_silent : (channel : Channel) → map.get real.net.channels conn ≡ Some channel → side < 2
      → IsSilent side channel
  closed_silent channel at below =
      let conn_at = some_value (map.get g.conns conn) (st.channels.listed conn (ap is_some at)) in
      let seen : map.get k.channels conn ≡ Some (seen_channel channel conn_at.0) =
      st.channels.each conn
      ∙ ap (option_and_then (λ (c : Channel). option_map (seen_channel c) (map.get g.conns conn))) at
      ∙ ap (option_map (seen_channel channel)) conn_at.1 in
      st.directions.closed conn channel side at below
      (open_false channel conn_at.0 side (st.channels.sides conn channel at) below
      (whole.streams.opened conn (seen_channel channel conn_at.0) side seen below ∙ nobody_names))

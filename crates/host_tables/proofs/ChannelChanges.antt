-- Channels made through the pairs, and how many there are.
--     channel_made        a new channel, whose kind and addresses are given
--     same_channels       as many channels on both sides
use Rattle.std.proofs.Common.{◌≡◌, ◌≢◌, ℕ, zero, suc, ◌<◌, ◌≤◌, Bool, true, false, cond, [], ◌∷◌, Option, Some, None, inl, inr, refl, sym, ap, ◌∙◌, subst, length, arith}
use Rattle.std.specs.Prelude.{option_map, option_and_then, is_some, IsSome, ◌==◌, slice_index_or}
use Rattle.std.specs.FinMap as map
use Rattle.std.proofs.lemmas.Option.{same_Some, none-some}
use Rattle.views.specs.Seen.{Agree, LeadBack, SeenBy}
use Rattle.views.proofs.MapLaws.{true_false, same_or_other, get_insert_same, get_insert_other}
use Rattle.views.proofs.Seen.{agree_by}
use Rattle.views.proofs.SeenLengths.{same_len}
use Rattle.sys_abi.specs.declared.identity.ConnId.{ConnId}
use Rattle.sys_abi.specs.declared.identity.Dir.{Dir}
use Rattle.sys_abi.specs.declared.identity.VirtAddr.{VirtAddr}
use Rattle.sys_abi.specs.Orders.{conn_cmp}
use Rattle.sys_abi.proofs.OrderLaws.{conn_total, conn_exact, dir_total, dir_exact}
use Rattle.conn_table.specs.declared.conn.Conn.{Conn}
use Rattle.plain_machine.specs.OfPlainTables.declared.channel.Channel as plain
use Rattle.plain_machine.specs.OfPlainTables.Objects.{dir}
use Rattle.plain_machine.specs.OfPlainTables.Tables.{Channels, Directions}
use Rattle.plain_machine.specs.declared.kernel.PlainKernel.{PlainKernel}
use Rattle.plain_machine.specs.Channels.{open_channel, empty_direction, with_channel}
use Rattle.wire_net.specs.OfWireChannels.declared.channel.Channel.{Channel}
use Rattle.wire_net.specs.OfWireChannels.Directions.{unused}
use Rattle.wire_net.specs.OfWireChannels.Channels as channels
use Rattle.wire_net.specs.Networks.{Network}
use Rattle.host_tables.specs.declared.kernel.Kernel.{Kernel}
use Rattle.host_tables.specs.Network.{Conns, kind_of, seen_channel, SameChannels, SameDirection, SameDirections}
use Rattle.host_tables.specs.Stands.{Given, Stands, open_conn, with_conn}
use Rattle.host_tables.proofs.DirectionChanges.{same_direction, re_directed}

module _ (conns : Conns) (virt : Channels) (real : channels.Channels) (same : SameChannels conns virt real)
    (id : ConnId) (kind : ℕ) (first second : Option VirtAddr) (new : map.get real id ≡ None) where
  abbrev conn : Conn
  conn = open_conn id kind first second

  abbrev conns' : Conns
  conns' = map.insert conns id conn

  abbrev made : plain.Channel
  made = open_channel (kind_of kind) first second

  abbrev virt' : Channels
  virt' = map.insert virt id made

  abbrev real' : channels.Channels
  real' = map.insert real id channels.new_channel

  abbrev seen_at : Conns → ConnId → Option Channel → Option plain.Channel
  seen_at table q o = option_and_then (λ channel. option_map (seen_channel channel) (map.get table q)) o

  here_conn : map.get conns' id ≡ Some conn
  here_conn = get_insert_same conn_total conn_exact conns id conn

  here_real : map.get real' id ≡ Some channels.new_channel
  here_real = get_insert_same conn_total conn_exact real id channels.new_channel

  beside_conn : (q : ConnId) → q ≢ id → map.get conns' q ≡ map.get conns q
  beside_conn q differ = get_insert_other conn_total conn_exact conns id conn q differ

  beside_real : (q : ConnId) → q ≢ id → map.get real' q ≡ map.get real q
  beside_real q differ = get_insert_other conn_total conn_exact real id channels.new_channel q differ

  pub SameChannels-made : SameChannels conns' virt' real'
  SameChannels-made = record {
    each = λ q. elim (same_or_other conn_total conn_exact q id) [
      | inl here ↦
          ap (map.get virt') here ∙ get_insert_same conn_total conn_exact virt id made
          ∙ sym (ap (λ x. seen_at conns' x (map.get real' x)) here ∙ ap (seen_at conns' id) here_real
          ∙ ap (option_map (seen_channel channels.new_channel)) here_conn)
      | inr differ ↦
          get_insert_other conn_total conn_exact virt id made q differ ∙ same.each q
          ∙ sym (ap (seen_at conns' q) (beside_real q differ)
          ∙ ap (λ (o : Option Conn). option_and_then (λ channel. option_map (seen_channel channel) o)
          (map.get real q)) (beside_conn q differ))
    ];
    listed = λ q there. elim (same_or_other conn_total conn_exact q id) [
      | inl here ↦ ap is_some (ap (map.get conns') here ∙ here_conn)
      | inr differ ↦ ap is_some (beside_conn q differ)
          ∙ same.listed q (sym (ap is_some (beside_real q differ)) ∙ there)
    ];
    sides = λ q channel is. elim (same_or_other conn_total conn_exact q id) [
      | inl here ↦ ap (λ (c : Channel). length c.open_ends)
          (same_Some channel channels.new_channel (sym is ∙ ap (map.get real') here ∙ here_real))
      | inr differ ↦ same.sides q channel (sym (beside_real q differ) ∙ is)
    ];
  }

-- directions of a new channel

open_both : (side : ℕ) → slice_index_or (true ∷ true ∷ []) side true ≡ true
open_both zero = refl
open_both (suc zero) = refl
open_both (suc (suc n)) = refl

unused_side : (b : Bool) → cond b unused unused ≡ unused
unused_side true = refl
unused_side false = refl

module _ (t : Network) (virt : Directions) (same : SameDirections t None virt) (id : ConnId)
    (new : map.get t.channels id ≡ None) where
  abbrev t' : Network
  t' = record t { channels = map.insert t.channels id channels.new_channel }

  abbrev with_first : Directions
  with_first = map.insert virt (dir id 0) empty_direction

  abbrev directions' : Directions
  directions' = map.insert with_first (dir id 1) empty_direction

  at_first : map.get directions' (dir id 0) ≡ Some empty_direction
  at_first =
      get_insert_other dir_total dir_exact with_first (dir id 1) empty_direction (dir id 0)
      (λ e. apart (ap (λ (q : Dir). q.side) e))
      ∙ get_insert_same dir_total dir_exact virt (dir id 0) empty_direction
    where
      apart : zero ≡ 1 → ⊥
      apart e = omega (arith, e)

  at_second : map.get directions' (dir id 1) ≡ Some empty_direction
  at_second = get_insert_same dir_total dir_exact with_first (dir id 1) empty_direction

  virt_here : (side : ℕ) → side < 2 → map.get directions' (dir id side) ≡ Some empty_direction
  virt_here zero less = at_first
  virt_here (suc zero) less = at_second
  virt_here (suc (suc n)) less = absurd (above n less)
    where
      above : (n : ℕ) → suc (suc n) < 2 → ⊥
      above n h = omega (arith, h)

  real_here : (side : ℕ) → channels.direction_at t'.channels (dir id side) ≡ Some unused
  real_here side =
      ap (option_map (channels.direction_of side)) (get_insert_same conn_total conn_exact t.channels id channels.new_channel)
      ∙ ap Some (unused_side (side == 0))

  here_agree : (e : Dir) → e.side < 2 → e.conn ≡ id
      → Agree (SameDirection t' None e) (map.get directions' e) (channels.direction_at t'.channels e)
  here_agree e less here =
      subst (λ q. Agree (SameDirection t' None q) (map.get directions' q) (channels.direction_at t'.channels q))
      (ap (λ x. dir x e.side) (sym here))
      (agree_by (SameDirection t' None (dir id e.side)) (Some empty_direction) _ (Some unused) _
      (virt_here e.side less) (real_here e.side)
      (same_direction t' (dir id e.side) empty_direction unused (real_here e.side)
      (record { left = refl; arrived = refl; ended = refl; unread = refl })))

  beside_virt : (e : Dir) → e.conn ≢ id → map.get directions' e ≡ map.get virt e
  beside_virt e differ =
      get_insert_other dir_total dir_exact with_first (dir id 1) empty_direction e
      (λ same. differ (ap (λ (q : Dir). q.conn) same))
      ∙ get_insert_other dir_total dir_exact virt (dir id 0) empty_direction e
      (λ same. differ (ap (λ (q : Dir). q.conn) same))

  above_virt : (e : Dir) → 2 ≤ e.side → map.get directions' e ≡ map.get virt e
  above_virt e more =
      get_insert_other dir_total dir_exact with_first (dir id 1) empty_direction e
      (λ same. less_one e.side more (ap (λ (q : Dir). q.side) same))
      ∙ get_insert_other dir_total dir_exact virt (dir id 0) empty_direction e
      (λ same. less_none e.side more (ap (λ (q : Dir). q.side) same))
    where
      less_one : (a : ℕ) → 2 ≤ a → a ≡ 1 → ⊥
      less_one a h e = omega (arith, h, e)

      less_none : (a : ℕ) → 2 ≤ a → a ≡ 0 → ⊥
      less_none a h e = omega (arith, h, e)

  pub SameDirections-made : SameDirections t' None directions'
  SameDirections-made =
      re_directed t t' virt directions' same
      (λ e less. elim (same_or_other conn_total conn_exact e.conn id) [
        | inl here ↦ inr (here_agree e less here)
        | inr differ ↦ inl (record {
          virt_same = beside_virt e differ;
          real_same = ap (option_map (channels.direction_of e.side))
              (get_insert_other conn_total conn_exact t.channels id channels.new_channel e.conn differ);
        })
      ])
      above_virt
      (λ q channel side is less shut. elim (same_or_other conn_total conn_exact q id) [
        | inl here ↦ true_false (sym (open_both side) ∙ ap (λ (c : Channel). slice_index_or c.open_ends side true)
            (same_Some channels.new_channel channel
            (sym (get_insert_same conn_total conn_exact t.channels id channels.new_channel)
            ∙ ap (map.get t'.channels) (sym here) ∙ is)) ∙ shut)
        | inr differ ↦ same.closed q channel side
            (sym (get_insert_other conn_total conn_exact t.channels id channels.new_channel q differ) ∙ is) less shut
      ])

pub channel_made : (g : Given) (real : Kernel) (k : PlainKernel) → Stands g None real k → (id : ConnId)
    (kind : ℕ) (first second : Option VirtAddr) → map.get real.net.channels id ≡ None
    → Stands (with_conn g (open_conn id kind first second)) None
    (record real { net = record real.net { channels = map.insert real.net.channels id channels.new_channel } })
    (with_channel k id (open_channel (kind_of kind) first second))
channel_made g real k st id kind first second new = record {
  paired = st.paired;
  numbered = st.numbered;
  processes = st.processes;
  descriptors = st.descriptors;
  descriptions = st.descriptions;
  inboxes = st.inboxes;
  files = st.files;
  channels = SameChannels-made g.conns k.channels real.net.channels st.channels id kind first second new;
  directions = SameDirections-made real.net k.directions st.directions id new;
  listeners = st.listeners;
}

-- how many

module _ (conns : Conns) (virt : Channels) (real : channels.Channels) (same : SameChannels conns virt real) where
  itself : LeadBack {K = ConnId} {L = ConnId} Some Some
  itself = record { back = λ k l e. ap Some (sym (same_Some k l e)); there = λ k l e. ap Some (sym (same_Some l k e)) }

  abbrev BothThere : ConnId → ConnId → plain.Channel → Channel → Type 0
  BothThere id l x y = Unit {0}

  both_there : (id : ConnId) (o : Option plain.Channel) (q : Option Channel) (c : Option Conn)
      → o ≡ option_and_then (λ channel. option_map (seen_channel channel) c) q → (IsSome q → IsSome c)
      → Agree (BothThere id id) o q
  both_there id None None c e listed = tt
  both_there id None (Some y) None e listed = true_false (sym (listed refl))
  both_there id None (Some y) (Some z) e listed = none-some (seen_channel y z) e
  both_there id (Some x) None c e listed = none-some x (sym e)
  both_there id (Some x) (Some y) c e listed = tt

  channels_seen : SeenBy {R = conn_cmp} {S = conn_cmp} Some Some BothThere virt real
  channels_seen = record {
    at = λ k l e. subst (λ q. Agree (BothThere k k) (map.get virt k) (map.get real q)) (same_Some k l e)
        (both_there k (map.get virt k) (map.get real k) (map.get conns k) (same.each k) (same.listed k));
    virt_alone = λ k e. absurd (none-some k (sym e));
    real_alone = λ l e. absurd (none-some l (sym e));
  }

  pub same_channels : map.len real ≡ map.len virt
  same_channels =
      same_len conn_total conn_exact conn_total conn_exact Some Some itself BothThere virt real channels_seen

-- An end of a channel that is silent is marked closed, and a channel of which no end is open goes.
--     other_open          whether the other end is open
--     end_marked          the end is closed on both sides
--     channel_gone        the channel is gone, with its directions
use Rattle.std.proofs.Common.{◌≡◌, ◌≢◌, ℕ, zero, suc, ◌-◌, ◌<◌, ◌≤◌, Bool, true, false, List, [], ◌∷◌, Option, Some, None, inl, inr, refl, sym, ap, ◌∙◌, subst, length, arith}
use Rattle.std.specs.Prelude.{option_map, option_and_then, is_some, slice_index_or, slice_set}
use Rattle.std.specs.List.{list_any}
use Rattle.std.specs.Cmp.{nat_cmp_total}
use Rattle.std.specs.FinMap as map
use Rattle.std.specs.FinMap.{nat_cmp-IsAntisymmetric}
use Rattle.std.proofs.lemmas.List.{get_or-set_other, length-set}
use Rattle.std.proofs.lemmas.Option.{same_Some, none-some}
use Rattle.views.proofs.MapLaws.{same_or_other, get_insert_same, get_insert_other, get_remove_same, get_remove_other}
use Rattle.views.specs.Seen.{Agree}
use Rattle.views.proofs.Seen.{agree_by}
use Rattle.sys_abi.specs.declared.identity.ConnId.{ConnId}
use Rattle.sys_abi.specs.declared.identity.Dir.{Dir}
use Rattle.sys_abi.proofs.OrderLaws.{conn_total, conn_exact, dir_total, dir_exact}
use Rattle.conn_table.specs.declared.conn.Conn.{Conn}
use Rattle.host_tables.specs.OfPlainTables.declared.channel.Channel as plain
use Rattle.host_tables.specs.OfPlainTables.Closing.{with_closed}
use Rattle.host_tables.specs.OfPlainTables.Objects.{dir}
use Rattle.host_tables.specs.OfPlainTables.Tables.{Channels, Directions}
use Rattle.host_tables.specs.OfPlainMachine.declared.kernel.PlainKernel.{PlainKernel}
use Rattle.wire_channels.specs.declared.channel.Channel.{Channel}
use Rattle.wire_channels.specs.Channels as channels
use Rattle.host_tables.specs.HandedOn.{Network}
use Rattle.host_tables.specs.declared.kernel.Kernel.{Kernel}
use Rattle.host_tables.specs.Network.{Conns, kind_of, seen_channel, SameChannels, SameDirections, IsSilent}
use Rattle.host_tables.specs.Stands.{Given, Stands}
use Rattle.host_tables.proofs.DirectionChanges.{re_directed}
use Rattle.host_tables.proofs.Frames.{net_kept}
use Rattle.host_tables.proofs.LookUps.{some_value}

-- lists of two ends

abbrev pub any_open : List Bool → Bool
any_open ends = list_any (λ open_end. open_end) ends

second_left : (b : Bool) → any_open (false ∷ b ∷ []) ≡ b
second_left true = refl
second_left false = refl

first_left : (a : Bool) → any_open (a ∷ false ∷ []) ≡ a
first_left true = refl
first_left false = refl

no_third : (n : ℕ) → suc (suc n) < 2 → ⊥
no_third n h = omega (arith, h)

pub other_open : (ends : List Bool) (side : ℕ) → length ends ≡ 2 → side < 2
    → any_open (slice_set ends side false) ≡ slice_index_or ends (1 - side) false
other_open [] side long less = absurd (never long)
  where
    never : zero ≡ 2 → ⊥
    never e = omega (arith, e)
other_open (a ∷ []) side long less = absurd (never long)
  where
    never : suc zero ≡ 2 → ⊥
    never e = omega (arith, e)
other_open (a ∷ b ∷ []) zero long less = second_left b
other_open (a ∷ b ∷ []) (suc zero) long less = first_left a
other_open (a ∷ b ∷ []) (suc (suc n)) long less = absurd (no_third n less)
other_open (a ∷ b ∷ c ∷ rest) side long less = absurd (never (length rest) long)
  where
    never : (n : ℕ) → suc (suc (suc n)) ≡ 2 → ⊥
    never n e = omega (arith, e)

abbrev seen_of : List Bool → Conn → plain.Channel
seen_of ends conn = record {
  kind = kind_of conn.kind;
  first = record { address = slice_index_or conn.addr 0 None; is_open = slice_index_or ends 0 false };
  second = record { address = slice_index_or conn.addr 1 None; is_open = slice_index_or ends 1 false };
}

seen_closed : (ends : List Bool) (side : ℕ) (conn : Conn) → length ends ≡ 2 → side < 2
    → seen_of (slice_set ends side false) conn ≡ with_closed side (seen_of ends conn)
seen_closed [] side conn long less = absurd (never long)
  where
    never : zero ≡ 2 → ⊥
    never e = omega (arith, e)
seen_closed (a ∷ []) side conn long less = absurd (never long)
  where
    never : suc zero ≡ 2 → ⊥
    never e = omega (arith, e)
seen_closed (a ∷ b ∷ rest) zero conn long less = refl
seen_closed (a ∷ b ∷ rest) (suc zero) conn long less = refl
seen_closed (a ∷ b ∷ rest) (suc (suc n)) conn long less = absurd (no_third n less)

-- the channel on both sides
pub record IsBoth (conns : Conns) (virt : Channels) (id : ConnId) (channel : Channel) : Type 0 where
  pub conn : Conn
  pub listed : map.get conns id ≡ Some conn
  pub seen : map.get virt id ≡ Some (seen_channel channel conn)
  pub two : length channel.open_ends ≡ 2

pub both : (conns : Conns) (virt : Channels) (real : channels.Channels) → SameChannels conns virt real → (id : ConnId)
    (channel : Channel) → map.get real id ≡ Some channel → IsBoth conns virt id channel
both conns virt real same id channel is =
    let found = some_value (map.get conns id) (same.listed id (ap is_some is)) in
    record {
      conn = found.0;
      listed = found.1;
      seen = same.each id
          ∙ ap (option_and_then (λ channel. option_map (seen_channel channel) (map.get conns id))) is
          ∙ ap (option_map (seen_channel channel)) found.1;
      two = same.sides id channel is;
    }

module _ (conns : Conns) (virt : Channels) (real : channels.Channels) (same : SameChannels conns virt real)
    (id : ConnId) (side : ℕ) (less : side < 2) (channel : Channel) (there : map.get real id ≡ Some channel) where
  abbrev here : IsBoth conns virt id channel
  here = both conns virt real same id channel there

  abbrev marked : Channel
  marked = channels.with_closed_end side channel

  abbrev seen_at : ConnId → Option Channel → Option plain.Channel
  seen_at q o = option_and_then (λ channel. option_map (seen_channel channel) (map.get conns q)) o

  abbrev virt' : (c : Conn) → Channels
  virt' c = map.insert virt id (with_closed side (seen_channel channel c))

  pub SameChannels-marked : (c : Conn) → map.get conns id ≡ Some c
      → SameChannels conns (virt' c) (map.insert real id marked)
  SameChannels-marked c listed = record {
    each = λ q. elim (same_or_other conn_total conn_exact q id) [
      | inl is ↦
          ap (map.get (virt' c)) is
          ∙ get_insert_same conn_total conn_exact virt id (with_closed side (seen_channel channel c))
          ∙ ap Some (sym (seen_closed channel.open_ends side c (same.sides id channel there) less))
          ∙ sym (ap (λ x. seen_at x (map.get (map.insert real id marked) x)) is
          ∙ ap (seen_at id) (get_insert_same conn_total conn_exact real id marked)
          ∙ ap (option_map (seen_channel marked)) listed)
      | inr differ ↦
          get_insert_other conn_total conn_exact virt id (with_closed side (seen_channel channel c)) q differ
          ∙ same.each q ∙ sym (ap (seen_at q) (get_insert_other conn_total conn_exact real id marked q differ))
    ];
    listed = λ q at. elim (same_or_other conn_total conn_exact q id) [
      | inl is ↦ ap is_some (ap (map.get conns) is ∙ listed)
      | inr differ ↦ same.listed q
          (sym (ap is_some (get_insert_other conn_total conn_exact real id marked q differ)) ∙ at)
    ];
    sides = λ q x is. elim (same_or_other conn_total conn_exact q id) [
      | inl at ↦
          ap (λ (c : Channel). length c.open_ends)
          (same_Some x marked (sym is ∙ ap (map.get (map.insert real id marked)) at
          ∙ get_insert_same conn_total conn_exact real id marked))
          ∙ length-set channel.open_ends side false ∙ same.sides id channel there
      | inr differ ↦ same.sides q x
          (sym (get_insert_other conn_total conn_exact real id marked q differ) ∙ is)
    ];
  }

module _ (t : Network) (virt : Directions) (same : SameDirections t None virt)
    (id : ConnId) (side : ℕ) (channel : Channel) (there : map.get t.channels id ≡ Some channel)
    (silent : IsSilent side channel) where
  abbrev mark : Channel
  mark = channels.with_closed_end side channel

  abbrev t' : Network
  t' = record t { channels = map.insert t.channels id mark }

  same_real : (e : Dir) → channels.direction_at t'.channels e ≡ channels.direction_at t.channels e
  same_real e = elim (same_or_other conn_total conn_exact e.conn id) [
    | inl is ↦
        ap (λ x. option_map (channels.direction_of e.side) (map.get t'.channels x)) is
        ∙ ap (option_map (channels.direction_of e.side)) (get_insert_same conn_total conn_exact t.channels id mark)
        ∙ sym (ap (λ x. option_map (channels.direction_of e.side) (map.get t.channels x)) is
        ∙ ap (option_map (channels.direction_of e.side)) there)
    | inr differ ↦ ap (option_map (channels.direction_of e.side))
        (get_insert_other conn_total conn_exact t.channels id mark e.conn differ)
  ]

  silent_at : (s : ℕ) → s < 2 → slice_index_or mark.open_ends s true ≡ false → IsSilent s mark
  silent_at s less shut = elim (same_or_other nat_cmp_total nat_cmp-IsAntisymmetric s side) [
    | inl is ↦ subst (λ x. IsSilent x mark) (sym is)
        (record { ended = silent.ended; unread = silent.unread })
    | inr differ ↦
        let was = same.closed id channel s there less
        (sym (get_or-set_other channel.open_ends side s false true differ) ∙ shut) in
        record { ended = was.ended; unread = was.unread }
  ]

  pub SameDirections-marked : SameDirections t' None virt
  SameDirections-marked =
      re_directed t t' virt virt same
      (λ e less. inl (record { virt_same = refl; real_same = same_real e }))
      (λ e more. refl)
      (λ q x s is less shut. elim (same_or_other conn_total conn_exact q id) [
        | inl at ↦
            let now : mark ≡ x = same_Some mark x
            (sym (get_insert_same conn_total conn_exact t.channels id mark)
            ∙ ap (map.get t'.channels) (sym at) ∙ is) in
            subst (IsSilent s) now (silent_at s less
            (ap (λ (c : Channel). slice_index_or c.open_ends s true) now ∙ shut))
        | inr differ ↦ same.closed q x s
            (sym (get_insert_other conn_total conn_exact t.channels id mark q differ) ∙ is) less shut
      ])

module _ (g : Given) (real : Kernel) (k : PlainKernel) (st : Stands g None real k) (id : ConnId) (side : ℕ)
    (less : side < 2) (channel : Channel) (there : map.get real.net.channels id ≡ Some channel) where
  pub end_marked : IsSilent side channel → (c : Conn) → map.get g.conns id ≡ Some c → Stands g None
      (record real {
        net = record real.net {
          channels = map.insert real.net.channels id (channels.with_closed_end side channel);
        };
      })
      (record k { channels = map.insert k.channels id (with_closed side (seen_channel channel c)) })
  end_marked silent c listed =
      net_kept g None real k st
      (record real.net { channels = map.insert real.net.channels id (channels.with_closed_end side channel) })
      (map.insert k.channels id (with_closed side (seen_channel channel c))) k.directions k.listeners
      (SameChannels-marked g.conns k.channels real.net.channels st.channels id side less channel there c listed)
      (SameDirections-marked real.net k.directions st.directions id side channel there silent)
      st.listeners

-- a channel goes

module _ (conns : Conns) (virt : Channels) (real : channels.Channels) (same : SameChannels conns virt real)
    (id : ConnId) where
  was_there : (q : ConnId) (x : Channel) → map.get (map.remove real id) q ≡ Some x → map.get real q ≡ Some x
  was_there q x is = elim (same_or_other conn_total conn_exact q id) [
    | inl at ↦ absurd (none-some x (sym (get_remove_same conn_total conn_exact real id)
        ∙ ap (map.get (map.remove real id)) (sym at) ∙ is))
    | inr differ ↦ sym (get_remove_other conn_total conn_exact real id q differ) ∙ is
  ]

  abbrev seen_as : ConnId → Option Channel → Option plain.Channel
  seen_as q o = option_and_then (λ channel. option_map (seen_channel channel) (map.get conns q)) o

  pub SameChannels-gone : SameChannels conns (map.remove virt id) (map.remove real id)
  SameChannels-gone = record {
    each = λ q. elim (same_or_other conn_total conn_exact q id) [
      | inl at ↦
          ap (map.get (map.remove virt id)) at ∙ get_remove_same conn_total conn_exact virt id
          ∙ sym (ap (seen_as q) (ap (map.get (map.remove real id)) at
          ∙ get_remove_same conn_total conn_exact real id))
      | inr differ ↦
          get_remove_other conn_total conn_exact virt id q differ ∙ same.each q
          ∙ sym (ap (seen_as q) (get_remove_other conn_total conn_exact real id q differ))
    ];
    listed = λ q there.
        let x = some_value (map.get (map.remove real id) q) there in
        same.listed q (ap is_some (was_there q x.0 x.1));
    sides = λ q x is. same.sides q x (was_there q x is);
  }

module _ (t : Network) (virt : Directions) (same : SameDirections t None virt)
    (id : ConnId) where
  abbrev less_net : Network
  less_net = record t { channels = map.remove t.channels id }

  abbrev without_one : Directions
  without_one = map.remove virt (dir id 0)

  abbrev without_both : Directions
  without_both = map.remove without_one (dir id 1)

  at_first : map.get without_both (dir id 0) ≡ None
  at_first =
      get_remove_other dir_total dir_exact without_one (dir id 1) (dir id 0)
      (λ e. apart (ap (λ (q : Dir). q.side) e))
      ∙ get_remove_same dir_total dir_exact virt (dir id 0)
    where
      apart : zero ≡ 1 → ⊥
      apart e = omega (arith, e)

  none_here : (s : ℕ) → s < 2 → map.get without_both (dir id s) ≡ None
  none_here zero less = at_first
  none_here (suc zero) less = get_remove_same dir_total dir_exact without_one (dir id 1)
  none_here (suc (suc n)) less = absurd (no_third n less)

  beside : (e : Dir) → e ≢ dir id 0 → e ≢ dir id 1 → map.get without_both e ≡ map.get virt e
  beside e first second =
      get_remove_other dir_total dir_exact without_one (dir id 1) e second
      ∙ get_remove_other dir_total dir_exact virt (dir id 0) e first

  none_real : (e : Dir) → e.conn ≡ id → channels.direction_at less_net.channels e ≡ None
  none_real e at =
      ap (λ x. option_map (channels.direction_of e.side) (map.get less_net.channels x)) at
      ∙ ap (option_map (channels.direction_of e.side)) (get_remove_same conn_total conn_exact t.channels id)

  pub SameDirections-gone : SameDirections less_net None without_both
  SameDirections-gone =
      re_directed t less_net virt without_both same
      (λ e less. elim (same_or_other conn_total conn_exact e.conn id) [
        | inl at ↦ inr (both_none _ _ _
            (ap (λ x. map.get without_both (dir x e.side)) at ∙ none_here e.side less) (none_real e at))
        | inr differ ↦ inl (record {
          virt_same = beside e (λ same. differ (ap (λ (q : Dir). q.conn) same))
              (λ same. differ (ap (λ (q : Dir). q.conn) same));
          real_same = ap (option_map (channels.direction_of e.side))
              (get_remove_other conn_total conn_exact t.channels id e.conn differ);
        })
      ])
      (λ e more. beside e (λ same. not_first e.side more (ap (λ (q : Dir). q.side) same))
      (λ same. not_second e.side more (ap (λ (q : Dir). q.side) same)))
      (λ q x s is less shut. same.closed q x s (was_at q x is) less shut)
    where
      both_none : {X Y : Type 0} (Is : X → Y → Type 0) (o : Option X) (q : Option Y) → o ≡ None → q ≡ None
          → Agree Is o q
      both_none Is o q e f = agree_by Is None o None q e f tt

      not_first : (a : ℕ) → 2 ≤ a → a ≡ 0 → ⊥
      not_first a h e = omega (arith, h, e)

      not_second : (a : ℕ) → 2 ≤ a → a ≡ 1 → ⊥
      not_second a h e = omega (arith, h, e)

      was_at : (q : ConnId) (x : Channel) → map.get less_net.channels q ≡ Some x → map.get t.channels q ≡ Some x
      was_at q x is = elim (same_or_other conn_total conn_exact q id) [
        | inl at ↦ absurd (none-some x (sym (get_remove_same conn_total conn_exact t.channels id)
            ∙ ap (map.get less_net.channels) (sym at) ∙ is))
        | inr differ ↦ sym (get_remove_other conn_total conn_exact t.channels id q differ) ∙ is
      ]

pub channel_gone : (g : Given) (real : Kernel) (k : PlainKernel) → Stands g None real k → (id : ConnId)
    → Stands g None
    (record real { net = record real.net { channels = map.remove real.net.channels id } })
    (record k {
      channels = map.remove k.channels id;
      directions = map.remove (map.remove k.directions (dir id 0)) (dir id 1);
    })
channel_gone g real k st id =
    net_kept g None real k st (record real.net { channels = map.remove real.net.channels id })
    (map.remove k.channels id) (map.remove (map.remove k.directions (dir id 0)) (dir id 1)) k.listeners
    (SameChannels-gone g.conns k.channels real.net.channels st.channels id)
    (SameDirections-gone real.net k.directions st.directions id) st.listeners

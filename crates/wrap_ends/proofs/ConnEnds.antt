-- The ends of channels in the table and in a kernel part.
--     AreEnds conns channels      the same channels are there, with the same ends open
--     AreFewer conns' conns       each was there, with its name, its kind and its addresses
--     end_closed, ends_closed     a side closes on both, and that of each connection of a queue
--     end_fewer, ends_fewer       no channel is there that was not
use Rattle.std.proofs.Common.{◌≡◌, ◌≢◌, ℕ, zero, suc, ◌<◌, Bool, true, false, cond, List, [], ◌∷◌, Option, Some, None, inl, inr, refl, sym, ap, ◌∙◌, subst, arith}
use Rattle.std.specs.Prelude.{◌-◌, slice_set, option_map}
use Rattle.std.specs.List.{list_any}
use Rattle.std.specs.FinMap as map
use Rattle.std.proofs.lemmas.Option.{none-some, same_Some}
use Rattle.views.proofs.MapLaws.{same_or_other, get_insert_same, get_insert_other, get_remove_same, get_remove_other}
use Rattle.sys_abi.specs.declared.identity.ConnId.{ConnId}
use Rattle.sys_abi.proofs.OrderLaws.{conn_total, conn_exact}
use Rattle.conn_table.specs.declared.conn.Conn.{Conn}
use Rattle.conn_table.specs.Conns.{is_open, without_end, put_back, after_end}
use Rattle.plain_tables.specs.declared.channel.Channel.{Channel}
use Rattle.plain_tables.specs.Closing.{with_closed, closed_channels_by, closed_channels, pending_channels}
use Rattle.plain_tables.specs.Objects.{end_of}
use Rattle.plain_tables.specs.Tables.{Channels}
use Rattle.host_tables.specs.Network.{Conns}
use Rattle.wrap_ends.specs.Forgetting.{without_waiting}

abbrev pub plain_ends : Channel → List Bool
plain_ends channel = channel.first.is_open ∷ channel.second.is_open ∷ []

abbrev pub ends_in : Option Conn → Option (List Bool)
ends_in o = option_map (λ (c : Conn). c.open_ends) o

abbrev pub plain_ends_in : Option Channel → Option (List Bool)
plain_ends_in o = option_map plain_ends o

abbrev pub AreEnds : Conns → Channels → Type 0
AreEnds conns channels = (id : ConnId) → ends_in (map.get conns id) ≡ plain_ends_in (map.get channels id)

pub record IsLike (c' c : Conn) : Type 0 where
  pub id : c'.id ≡ c.id
  pub kind : c'.kind ≡ c.kind
  pub addr : c'.addr ≡ c.addr

abbrev pub AreFewer : Conns → Conns → Type 0
AreFewer conns' conns =
    (id : ConnId) (c' : Conn) → map.get conns' id ≡ Some c'
    → (c : Conn) × ((map.get conns id ≡ Some c) × IsLike c' c)

pub fewer_self : (conns : Conns) → AreFewer conns conns
fewer_self conns id c' is = (c', (is, record { id = refl; kind = refl; addr = refl }))

pub fewer_then : (a b c : Conns) → AreFewer b a → AreFewer c b → AreFewer c a
fewer_then a b c first later id z is =
    let y = later id z is in
    let x = first id y.0 y.1.0 in (
      x.0,
      (
        x.1.0,
        record {
          id = y.1.1.id ∙ x.1.1.id;
          kind = y.1.1.kind ∙ x.1.1.kind;
          addr = y.1.1.addr ∙ x.1.1.addr;
        },
      ),
    )

-- the ends of one channel
second_open : (b : Bool) → list_any (λ e. e) (false ∷ b ∷ []) ≡ b
second_open true = refl
second_open false = refl

first_open : (b : Bool) → list_any (λ e. e) (b ∷ false ∷ []) ≡ b
first_open true = refl
first_open false = refl

never_below : (n : ℕ) → suc (suc n) < 2 → ⊥
never_below n low = omega (arith, low)

module _ (c : Conn) (channel : Channel) (same : c.open_ends ≡ plain_ends channel) where
  still_open : (side : ℕ) → side < 2 → is_open (without_end side c) ≡ (end_of channel (1 - side)).is_open
  still_open zero low =
      ap (λ ends. list_any (λ e. e) (slice_set ends 0 false)) same ∙ second_open channel.second.is_open
  still_open (suc zero) low =
      ap (λ ends. list_any (λ e. e) (slice_set ends 1 false)) same ∙ first_open channel.first.is_open
  still_open (suc (suc n)) low = absurd (never_below n low)

  new_ends : (side : ℕ) → side < 2 → (without_end side c).open_ends ≡ plain_ends (with_closed side channel)
  new_ends zero low = ap (λ ends. slice_set ends 0 false) same
  new_ends (suc zero) low = ap (λ ends. slice_set ends 1 false) same
  new_ends (suc (suc n)) low = absurd (never_below n low)

module _ (conns : Conns) (id : ConnId) where
  conns_by : (c : Conn) (b : Bool)
      → ends_in (map.get (cond b (map.insert conns id c) (map.remove conns id)) id)
      ≡ cond b (Some c.open_ends) None
  conns_by c true = ap ends_in (get_insert_same conn_total conn_exact conns id c)
  conns_by c false = ap ends_in (get_remove_same conn_total conn_exact conns id)

  beside_by : (q : ConnId) → q ≢ id → (c : Conn) (b : Bool)
      → map.get (cond b (map.insert conns id c) (map.remove conns id)) q ≡ map.get conns q
  beside_by q differ c true = get_insert_other conn_total conn_exact conns id c q differ
  beside_by q differ c false = get_remove_other conn_total conn_exact conns id q differ

  put_beside : (q : ConnId) → q ≢ id → (o : Option Conn) → map.get (put_back conns id o) q ≡ map.get conns q
  put_beside q differ None = refl
  put_beside q differ (Some c) = beside_by q differ c (is_open c)

  module _ (side : ℕ) where
    end_beside : (q : ConnId) → q ≢ id → map.get (after_end side conns id) q ≡ map.get conns q
    end_beside q differ = put_beside q differ (option_map (without_end side) (map.get conns id))

    here_by : (c c' : Conn) (b : Bool)
        → map.get (cond b (map.insert conns id (without_end side c)) (map.remove conns id)) id ≡ Some c'
        → c' ≡ without_end side c
    here_by c c' true is =
        same_Some c' (without_end side c)
        (sym is ∙ get_insert_same conn_total conn_exact conns id (without_end side c))
    here_by c c' false is =
        absurd (none-some c' (sym (get_remove_same conn_total conn_exact conns id) ∙ is))

    was_by : (o : Option Conn) (c' : Conn) → map.get conns id ≡ o
        → map.get (put_back conns id (option_map (without_end side) o)) id ≡ Some c'
        → (c : Conn) × ((map.get conns id ≡ Some c) × IsLike c' c)
    was_by None c' e is = (c', (is, record { id = refl; kind = refl; addr = refl }))
    was_by (Some c) c' e is =
        let same = here_by c c' (is_open (without_end side c)) is in (
          c,
          (
            e,
            record {
              id = ap (λ (x : Conn). x.id) same;
              kind = ap (λ (x : Conn). x.kind) same;
              addr = ap (λ (x : Conn). x.addr) same;
            },
          ),
        )

    pub end_fewer : AreFewer (after_end side conns id) conns
    end_fewer q c' is = elim (same_or_other conn_total conn_exact q id) [
      | inl here ↦
          subst (λ (u : ConnId). (c : Conn) × ((map.get conns u ≡ Some c) × IsLike c' c)) (sym here)
          (was_by (map.get conns id) c' refl (ap (map.get (after_end side conns id)) (sym here) ∙ is))
      | inr differ ↦ (c', (sym (end_beside q differ) ∙ is, record { id = refl; kind = refl; addr = refl }))
    ]

module _ (channels : Channels) (id : ConnId) where
  channels_by : (channel : Channel) (b : Bool)
      → plain_ends_in (map.get (cond b (map.insert channels id channel) (map.remove channels id)) id)
      ≡ cond b (Some (plain_ends channel)) None
  channels_by channel true = ap plain_ends_in (get_insert_same conn_total conn_exact channels id channel)
  channels_by channel false = ap plain_ends_in (get_remove_same conn_total conn_exact channels id)

  channel_by : (q : ConnId) → q ≢ id → (channel : Channel) (b : Bool)
      → map.get (cond b (map.insert channels id channel) (map.remove channels id)) q ≡ map.get channels q
  channel_by q differ channel true = get_insert_other conn_total conn_exact channels id channel q differ
  channel_by q differ channel false = get_remove_other conn_total conn_exact channels id q differ

  closed_by : (side : ℕ) (q : ConnId) → q ≢ id → (o : Option Channel)
      → map.get (closed_channels_by channels id side o) q ≡ map.get channels q
  closed_by side q differ None = refl
  closed_by side q differ (Some channel) =
      channel_by q differ (with_closed side channel) (end_of channel (1 - side)).is_open

  closed_beside : (side : ℕ) (q : ConnId) → q ≢ id
      → map.get (closed_channels channels id side) q ≡ map.get channels q
  unfolding closed_channels
  closed_beside side q differ = closed_by side q differ (map.get channels id)

module _ (conns : Conns) (channels : Channels) (id : ConnId) (side : ℕ) (low : side < 2)
    (are : AreEnds conns channels) where
  at_it : (o : Option Conn) (x : Option Channel) → map.get conns id ≡ o → map.get channels id ≡ x
      → ends_in o ≡ plain_ends_in x
      → ends_in (map.get (put_back conns id (option_map (without_end side) o)) id)
      ≡ plain_ends_in (map.get (closed_channels_by channels id side x) id)
  at_it None None e f h = are id
  at_it None (Some channel) e f h = absurd (none-some (plain_ends channel) h)
  at_it (Some c) None e f h = absurd (none-some c.open_ends (sym h))
  at_it (Some c) (Some channel) e f h =
      let same = same_Some c.open_ends (plain_ends channel) h in
      let opened = still_open c channel same side low in
      let ends = new_ends c channel same side low in
      conns_by conns id (without_end side c) (is_open (without_end side c))
      ∙ (λ i. cond (opened i) (Some (ends i)) None)
      ∙ sym (channels_by channels id (with_closed side channel) (end_of channel (1 - side)).is_open)

  pub end_closed : AreEnds (after_end side conns id) (closed_channels channels id side)
  unfolding closed_channels
  end_closed q = elim (same_or_other conn_total conn_exact q id) [
    | inl here ↦
        subst (λ (u : ConnId). ends_in (map.get (after_end side conns id) u)
        ≡ plain_ends_in (map.get (closed_channels_by channels id side (map.get channels id)) u)) (sym here)
        (at_it (map.get conns id) (map.get channels id) refl refl (are id))
    | inr differ ↦
        ap ends_in (end_beside conns id side q differ) ∙ are q
        ∙ sym (ap plain_ends_in (closed_by channels id side q differ (map.get channels id)))
  ]

-- a queue

pub ends_closed : (queue : List ConnId) (conns : Conns) (channels : Channels) → AreEnds conns channels
    → AreEnds (without_waiting conns queue) (pending_channels channels queue)
unfolding without_waiting pending_channels
ends_closed [] conns channels are = are
ends_closed (id ∷ rest) conns channels are =
    ends_closed rest (after_end 1 conns id) (closed_channels channels id 1)
    (end_closed conns channels id 1 (omega arith) are)

pub ends_fewer : (queue : List ConnId) (conns : Conns) → AreFewer (without_waiting conns queue) conns
unfolding without_waiting
ends_fewer [] conns = fewer_self conns
ends_fewer (id ∷ rest) conns =
    fewer_then conns (after_end 1 conns id) (without_waiting (after_end 1 conns id) rest)
    (end_fewer conns id 1)
    (ends_fewer rest (after_end 1 conns id))

-- Directions through the pairs, while no stage of a checkpoint holds the system.
--     left_alone, same_direction      without agents the bytes left are those in the queues
--     re_directed                     directions that are as they were, or changed on both sides
--     SameChannels-open               channels whose ends stay open or closed
--     direction_put                   one direction changes
use Rattle.std.proofs.Common.{◌≡◌, ◌⊎◌, ℕ, ◌-◌, ◌<◌, ◌≤◌, Bool, true, false, cond, List, Option, Some, None, inl, inr, refl, sym, ap, ◌∙◌, subst, length, arith}
use Rattle.std.specs.Prelude.{option_map, option_and_then, IsSome, ◌==◌, slice_index_or}
use Rattle.std.specs.Option.{option_map_or}
use Rattle.std.specs.FinMap as map
use Rattle.std.proofs.lemmas.Option.{same_Some, none-some}
use Rattle.views.specs.Seen.{Agree}
use Rattle.views.proofs.MapLaws.{true_false, same_or_other, get_insert_same, get_insert_other}
use Rattle.views.proofs.Seen.{agree_by}
use Rattle.sys_abi.specs.declared.identity.ConnId.{ConnId}
use Rattle.sys_abi.specs.declared.identity.Dir.{Dir}
use Rattle.sys_abi.specs.Orders.{dir_cmp}
use Rattle.sys_abi.proofs.OrderLaws.{conn_total, conn_exact, dir_total, dir_exact}
use Rattle.plain_machine.specs.OfPlainTables.declared.channel.Direction as plain_direction
use Rattle.plain_machine.specs.OfPlainTables.Tables.{Channels, Directions}
use Rattle.plain_machine.specs.declared.kernel.PlainKernel.{PlainKernel}
use Rattle.plain_machine.specs.Channels.{with_direction}
use Rattle.wire_net.specs.OfWireChannels.declared.channel.Channel.{Channel}
use Rattle.wire_net.specs.OfWireChannels.Directions.{Direction}
use Rattle.wire_net.specs.OfWireChannels.Channels as channels
use Rattle.wire_net.specs.Networks.{Network}
use Rattle.wire_net.specs.Whereabouts.{Held, placed, stream, stream_on, reverse, whereabouts}
use Rattle.wire_net.proofs.OfWireChannels.OneDirection.{direction_changed, direction_beside}
use Rattle.host_tables.specs.declared.kernel.Kernel.{Kernel}
use Rattle.host_tables.specs.Network.{Conns, seen_channel, SameChannels, SameDirection, SameDirections, IsSilent}
use Rattle.host_tables.specs.Stands.{Given, Stands}
use Rattle.host_tables.proofs.Frames.{net_kept}

-- without agents

pub alone : (t : Network) (d : Dir) → whereabouts t map.empty d ≡ stream_on (channels.direction_at t.channels d)
alone t d =
    ap (placed (stream_on (channels.direction_at t.channels d)) (stream_on (channels.direction_at t.channels (reverse d))))
    (map.get-empty {X = Held} dir_cmp d)

pub left_alone : (t : Network) (d : Dir) (x : plain_direction.Direction) (y : Direction)
    → channels.direction_at t.channels d ≡ Some y → SameDirection t None d x y → x.left ≡ stream y
left_alone t d x y is same = same.left ∙ alone t d ∙ ap stream_on is

-- what a direction is by the real one
pub record IsSeen (x : plain_direction.Direction) (y : Direction) : Type 0 where
  pub left : x.left ≡ stream y
  pub arrived : x.arrived ≡ length y.received
  pub ended : x.ended ≡ y.is_ended
  pub unread : x.unread ≡ y.is_unread

pub same_direction : (t : Network) (d : Dir) (x : plain_direction.Direction) (y : Direction)
    → channels.direction_at t.channels d ≡ Some y → IsSeen x y → SameDirection t None d x y
same_direction t d x y is seen = record {
  left = seen.left ∙ sym (alone t d ∙ ap stream_on is);
  ended = seen.ended;
  unread = seen.unread;
  arrived = seen.arrived;
}

pub seen_direction : (t : Network) (d : Dir) (x : plain_direction.Direction) (y : Direction)
    → channels.direction_at t.channels d ≡ Some y → SameDirection t None d x y → IsSeen x y
seen_direction t d x y is same = record {
  left = left_alone t d x y is same;
  arrived = same.arrived;
  ended = same.ended;
  unread = same.unread;
}

-- a direction that is as it was
pub record IsKept (t t' : Network) (virt virt' : Directions) (e : Dir) : Type 0 where
  pub virt_same : map.get virt' e ≡ map.get virt e
  pub real_same : channels.direction_at t'.channels e ≡ channels.direction_at t.channels e

kept_agree : (t t' : Network) (e : Dir) (o : Option plain_direction.Direction)
    (q : Option Direction) → channels.direction_at t.channels e ≡ q → channels.direction_at t'.channels e ≡ q
    → Agree (SameDirection t None e) o q → Agree (SameDirection t' None e) o q
kept_agree t t' e None None is is' h = tt
kept_agree t t' e None (Some y) is is' h = h
kept_agree t t' e (Some x) None is is' h = h
kept_agree t t' e (Some x) (Some y) is is' h = same_direction t' e x y is' (seen_direction t e x y is h)

pub re_directed : (t t' : Network) (virt virt' : Directions)
    → SameDirections t None virt
    → ((e : Dir) → e.side < 2 → IsKept t t' virt virt' e
    ⊎ Agree (SameDirection t' None e) (map.get virt' e) (channels.direction_at t'.channels e))
    → ((e : Dir) → 2 ≤ e.side → map.get virt' e ≡ map.get virt e)
    → ((id : ConnId) (channel : Channel) (side : ℕ) → map.get t'.channels id ≡ Some channel → side < 2
    → slice_index_or channel.open_ends side true ≡ false → IsSilent side channel)
    → SameDirections t' None virt'
re_directed t t' virt virt' same each above closed = record {
  at = λ e less. elim (each e less) [
    | inl kept ↦
        agree_by (SameDirection t' None e) (map.get virt e) (map.get virt' e)
        (channels.direction_at t.channels e) (channels.direction_at t'.channels e) kept.virt_same kept.real_same
        (kept_agree t t' e (map.get virt e) (channels.direction_at t.channels e) refl kept.real_same
        (same.at e less))
    | inr new ↦ new
  ];
  no_other = λ e more. above e more ∙ same.no_other e more;
  closed = closed;
}

-- channels that have the same ends open

abbrev pub ends_in : Option Channel → Option (List Bool)
ends_in o = option_map (λ (channel : Channel). channel.open_ends) o

seen_by : (conns : Conns) (id : ConnId) (o q : Option Channel) → ends_in o ≡ ends_in q
    → option_and_then (λ channel. option_map (seen_channel channel) (map.get conns id)) o
    ≡ option_and_then (λ channel. option_map (seen_channel channel) (map.get conns id)) q
seen_by conns id None None e = refl
seen_by conns id None (Some y) e = absurd (none-some y.open_ends e)
seen_by conns id (Some x) None e = absurd (none-some x.open_ends (sym e))
seen_by conns id (Some x) (Some y) e =
    ap (λ (ends : List Bool). option_map (seen_channel (record x { open_ends = ends })) (map.get conns id))
    (same_Some x.open_ends y.open_ends e)

ends_there : (o : Option Channel) (ends : List Bool) → Some ends ≡ ends_in o
    → (channel : Channel) × ((o ≡ Some channel) × (ends ≡ channel.open_ends))
ends_there None ends e = absurd (none-some ends (sym e))
ends_there (Some channel) ends e = (channel, (refl, same_Some ends channel.open_ends e))

some_ends : (o q : Option Channel) → ends_in o ≡ ends_in q → IsSome o → IsSome q
some_ends None q e h = true_false (sym h)
some_ends (Some x) None e h = absurd (none-some x.open_ends (sym e))
some_ends (Some x) (Some y) e h = refl

pub SameChannels-open : (conns : Conns) (virt : Channels) (real real' : channels.Channels)
    → SameChannels conns virt real → ((id : ConnId) → ends_in (map.get real' id) ≡ ends_in (map.get real id))
    → SameChannels conns virt real'
SameChannels-open conns virt real real' same ends = record {
  each = λ id. same.each id ∙ sym (seen_by conns id (map.get real' id) (map.get real id) (ends id));
  listed = λ id there. same.listed id (some_ends (map.get real' id) (map.get real id) (ends id) there);
  sides = λ id channel is.
      let was = ends_there (map.get real id) channel.open_ends (sym (ap ends_in is) ∙ ends id) in
      ap (λ (ends : List Bool). length ends) was.1.1 ∙ same.sides id was.0 was.1.0;
}

-- one direction changes

-- what is ended or unread stays so
pub record KeepsSilence (f : Direction → Direction) : Type 0 where
  pub ended : (y : Direction) → y.is_ended ≡ true → (f y).is_ended ≡ true
  pub unread : (y : Direction) → y.is_unread ≡ true → (f y).is_unread ≡ true

abbrev chosen : Bool → Channel → Direction
chosen b channel = cond b channel.first channel.second

abbrev changed : Bool → (Direction → Direction) → Channel → Channel
changed b f channel =
    cond b (record channel { first = f channel.first }) (record channel { second = f channel.second })

still : (P : Direction → Type 0) (f : Direction → Direction) → ((y : Direction) → P y → P (f y))
    → (a b : Bool) (channel : Channel) → P (chosen a channel) → P (chosen a (changed b f channel))
still P f keeps true true channel h = keeps channel.first h
still P f keeps true false channel h = h
still P f keeps false true channel h = h
still P f keeps false false channel h = keeps channel.second h

ends_changed : (b : Bool) (f : Direction → Direction) (channel : Channel)
    → (changed b f channel).open_ends ≡ channel.open_ends
ends_changed true f channel = refl
ends_changed false f channel = refl

module _ (m : channels.Channels) (d : Dir) (f : Direction → Direction) where
  -- each channel that is there was there, changed or not
  found_was : (id : ConnId) (o : Option Channel) → map.get m d.conn ≡ o
      → ends_in (map.get (option_map_or (λ channel. map.insert m d.conn (channels.at_side d.side f channel)) o m) id)
      ≡ ends_in (map.get m id)
  found_was id None is = refl
  found_was id (Some channel) is = elim (same_or_other conn_total conn_exact id d.conn) [
    | inl here ↦
        ap (λ x. ends_in (map.get (map.insert m d.conn (channels.at_side d.side f channel)) x)) here
        ∙ ap ends_in (get_insert_same conn_total conn_exact m d.conn (channels.at_side d.side f channel))
        ∙ ap Some (ends_changed (d.side == 0) f channel)
        ∙ sym (ap (λ x. ends_in (map.get m x)) here ∙ ap ends_in is)
    | inr differ ↦
        ap ends_in (get_insert_other conn_total conn_exact m d.conn (channels.at_side d.side f channel) id differ)
  ]

  pub ends_kept : (id : ConnId) → ends_in (map.get (channels.at_direction m d f) id) ≡ ends_in (map.get m id)
  ends_kept id = found_was id (map.get m d.conn) refl

  module _ (keeps : KeepsSilence f) where
    abbrev IsClosedSilent : channels.Channels → Type 0
    IsClosedSilent n = (id : ConnId) (channel : Channel) (side : ℕ) → map.get n id ≡ Some channel → side < 2
        → slice_index_or channel.open_ends side true ≡ false → IsSilent side channel

    closed_by : IsClosedSilent m → (o : Option Channel) → map.get m d.conn ≡ o
        → IsClosedSilent (option_map_or (λ channel. map.insert m d.conn (channels.at_side d.side f channel)) o m)
    closed_by closed None is id there side at less shut = closed id there side at less shut
    closed_by closed (Some channel) is id there side at less shut =
        elim (same_or_other conn_total conn_exact id d.conn) [
          | inl here ↦
              let put = channels.at_side d.side f channel in
              let now : put ≡ there = same_Some put there
              (sym (get_insert_same conn_total conn_exact m d.conn put)
              ∙ ap (map.get (map.insert m d.conn put)) (sym here) ∙ at) in
              let was = closed d.conn channel side is less
              (ap (λ (ends : List Bool). slice_index_or ends side true)
              (sym (ends_changed (d.side == 0) f channel) ∙ ap (λ (c : Channel). c.open_ends) now) ∙ shut) in
              subst (IsSilent side) now (record {
                ended = still (λ y. y.is_ended ≡ true) f keeps.ended (side == 0) (d.side == 0) channel was.ended;
                unread =
                    still (λ y. y.is_unread ≡ true) f keeps.unread (1 - side == 0) (d.side == 0) channel was.unread;
              })
          | inr differ ↦ closed id there side
              (sym (get_insert_other conn_total conn_exact m d.conn (channels.at_side d.side f channel) id differ) ∙ at)
              less shut
        ]

    pub closed_kept : IsClosedSilent m → IsClosedSilent (channels.at_direction m d f)
    closed_kept closed = closed_by closed (map.get m d.conn) refl

module _ (t : Network) (virt : Directions) (same : SameDirections t None virt) (d : Dir)
    (less : d.side < 2) (f : Direction → Direction) (keeps : KeepsSilence f) (x : plain_direction.Direction)
    (y : Direction) (there : channels.direction_at t.channels d ≡ Some y)
    (seen : IsSeen x (f y)) where
  abbrev t' : Network
  t' = record t { channels = channels.at_direction t.channels d f }

  here_then : channels.direction_at t'.channels d ≡ Some (f y)
  here_then = direction_changed t.channels d f ∙ ap (option_map f) there

  pub SameDirections-put : SameDirections t' None (map.insert virt d x)
  SameDirections-put =
      re_directed t t' virt (map.insert virt d x) same
      (λ e side. elim (same_or_other dir_total dir_exact e d) [
        | inl here ↦ inr (subst (λ q. Agree (SameDirection t' None q) (map.get (map.insert virt d x) q)
            (channels.direction_at t'.channels q)) (sym here)
            (agree_by (SameDirection t' None d) (Some x) (map.get (map.insert virt d x) d) (Some (f y))
            (channels.direction_at t'.channels d) (get_insert_same dir_total dir_exact virt d x) here_then
            (same_direction t' d x (f y) here_then seen)))
        | inr differ ↦ inl (record {
          virt_same = get_insert_other dir_total dir_exact virt d x e differ;
          real_same = direction_beside t.channels d e f less side differ;
        })
      ])
      (λ e more. get_insert_other dir_total dir_exact virt d x e
      (λ here. apart d.side e.side less more (ap (λ (q : Dir). q.side) here)))
      (closed_kept t.channels d f keeps same.closed)
    where
      apart : (a b : ℕ) → a < 2 → 2 ≤ b → b ≡ a → ⊥
      apart a b h l e = omega (arith, h, l, e)

module _ (g : Given) (real : Kernel) (k : PlainKernel) (st : Stands g None real k) (d : Dir) (less : d.side < 2)
    (f : Direction → Direction) (keeps : KeepsSilence f) (x : plain_direction.Direction) (y : Direction)
    (there : channels.direction_at real.net.channels d ≡ Some y) where
  pub direction_put : IsSeen x (f y) → Stands g None
      (record real { net = record real.net { channels = channels.at_direction real.net.channels d f } })
      (with_direction k d x)
  direction_put seen =
      net_kept g None real k st (record real.net { channels = channels.at_direction real.net.channels d f })
      k.channels (map.insert k.directions d x) k.listeners
      (SameChannels-open g.conns k.channels real.net.channels (channels.at_direction real.net.channels d f)
      st.channels (ends_kept real.net.channels d f))
      (SameDirections-put real.net k.directions st.directions d less f keeps x y there seen)
      st.listeners

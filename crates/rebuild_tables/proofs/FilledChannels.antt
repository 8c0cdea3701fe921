-- A channel that was just made, and what it is when its directions are filled and its closed ends closed.
--     second_there                 its second direction is empty once the first is filled
--     direction_there              the kernel part has both directions of its channels
--     is_filled                    it has the kernel part's bytes, flags and closed ends
use Rattle.std.proofs.Common.{◌≡◌, ℕ, ◌-◌, ◌<◌, Bool, true, false, cond, List, [], ◌∷◌, Option, Some, None, refl, sym, ap, ◌∙◌, subst, arith}
use Rattle.std.specs.Prelude.{◌||◌, zero, suc, is_some, option_map}
use Rattle.std.specs.Option.{option_map_or}
use Rattle.std.specs.FinMap as map
use Rattle.views.proofs.MapLaws.{true_false, get_insert_same, insert_insert}
use Rattle.sys_abi.specs.declared.identity.ConnId.{ConnId}
use Rattle.sys_abi.proofs.OrderLaws.{conn_total, conn_exact}
use Rattle.plain_tables.specs.declared.channel.Channel as plain
use Rattle.plain_tables.specs.declared.channel.Direction as plain_direction
use Rattle.plain_tables.specs.Objects.{dir, end_of}
use Rattle.plain_tables.specs.Tables as tables
use Rattle.plain_tables.specs.Valid.Channels.{IsDirection, IsClosed, AreChannels}
use Rattle.wire_channels.specs.declared.channel.Channel.{Channel}
use Rattle.wire_channels.specs.Channels.{Channels, new_channel, direction_of, direction_at, at_side, is_open, put_back, without_end, after_close}
use Rattle.wire_channels.specs.Directions.{Direction, unused, after_end, after_stop_reading}
use Rattle.wire_net.specs.Networks.{Network}
use Rattle.rebuild_tables.specs.Filled.{IsStanding, IsFilled}
use Rattle.rebuild_tables.specs.Steps.{filled_as, filled, with_direction, closed_unless}

abbrev both : Direction → Direction → Bool → Bool → Channel
both y z a b = record { first = y; second = z; open_ends = a ∷ b ∷ [] }

-- an end that is closed changes neither of its directions
record IsQuiet (out inward : Direction) : Type 0 where
  ended : after_end out ≡ out
  unread : after_stop_reading inward ≡ inward

module _ (m : Channels) (id : ConnId) (new : map.get m id ≡ Some new_channel) where
  first_there : direction_at m (dir id 0) ≡ Some unused
  first_there = ap (option_map (direction_of 0)) new

  module _ (y : Direction) where
    abbrev half : Channel
    half = record new_channel { first = y }

    with_first : with_direction m (dir id 0) y ≡ map.insert m id half
    with_first =
        ap (λ found. option_map_or (λ channel. map.insert m id (at_side 0 (λ _. y) channel)) found m) new

    pub second_there : direction_at (with_direction m (dir id 0) y) (dir id 1) ≡ Some unused
    second_there =
        ap (λ n. option_map (direction_of 1) (map.get n id)) with_first
        ∙ ap (option_map (direction_of 1)) (get_insert_same conn_total conn_exact m id half)

    abbrev with_half : Channels
    with_half = map.insert m id half

    with_both : (z : Direction) → with_direction (with_direction m (dir id 0) y) (dir id 1) z
        ≡ map.insert m id (both y z true true)
    with_both z =
        ap (λ n. with_direction n (dir id 1) z) with_first
        ∙ ap (λ found. option_map_or (λ channel. map.insert with_half id (at_side 1 (λ _. z) channel)) found
        with_half) (get_insert_same conn_total conn_exact m id half)
        ∙ insert_insert conn_total conn_exact m id half (both y z true true)

  module _ (y z : Direction) where
    abbrev open_both : Channel
    open_both = both y z true true

    -- the end of one side closed
    shut : (side : ℕ) (c : Channel) → without_end side open_both ≡ c → is_open c ≡ true
        → after_close side (map.insert m id open_both) id ≡ map.insert m id c
    shut side c is some =
        ap (λ found. put_back (map.insert m id open_both) id (option_map (without_end side) found))
        (get_insert_same conn_total conn_exact m id open_both)
        ∙ ap (λ (closed : Channel). put_back (map.insert m id open_both) id (Some closed)) is
        ∙ stays (is_open c) some
        ∙ insert_insert conn_total conn_exact m id open_both c
      where
        stays : (b : Bool) → b ≡ true
            → cond b (map.insert (map.insert m id open_both) id c) (map.remove (map.insert m id open_both) id)
            ≡ map.insert (map.insert m id open_both) id c
        stays true some = refl
        stays false some = true_false (sym some)

    closes : (a b : Bool) → (a || b) ≡ true → (a ≡ false → IsQuiet y z) → (b ≡ false → IsQuiet z y)
        → closed_unless b 1 (closed_unless a 0 (map.insert m id open_both) id) id
        ≡ map.insert m id (both y z a b)
    closes true true some first second = refl
    closes false true some first second =
        let quiet = first refl in
        shut 0 (both y z false true)
        (ap (λ out. both out (after_stop_reading z) false true) quiet.ended
        ∙ ap (λ inward. both y inward false true) quiet.unread) refl
    closes true false some first second =
        let quiet = second refl in
        shut 1 (both y z true false)
        (ap (λ out. both (after_stop_reading y) out true false) quiet.ended
        ∙ ap (λ inward. both inward z true false) quiet.unread) refl
    closes false false some first second = true_false (sym some)

-- the directions of a kernel part

is_there : {X : Type 0} (found : Option X) → is_some found ≡ true → (x : X) × (found ≡ Some x)
is_there None there = true_false (sym there)
is_there (Some x) there = (x, refl)

quiet : (x w : plain_direction.Direction) → x.ended ≡ true → w.unread ≡ true → IsDirection w
    → IsQuiet (filled_as x) (filled_as w)
quiet x w ended unread is = record {
  ended = ap (λ (flag : Bool). record (filled_as x) { is_ended = flag }) (sym ended);
  unread =
      ap (λ (flag : Bool). record (filled_as w) { received = []; is_unread = flag }) (sym unread)
      ∙ ap (λ (left : List ℕ). record (filled_as w) { received = left }) (sym (is.unread unread));
}

stands : (x : plain_direction.Direction) → IsStanding x (filled_as x)
stands x = record { received = refl; wire = refl; sent = refl; ended = refl; unread = refl }

module _ (channels : tables.Channels) (directions : tables.Directions)
    (whole : AreChannels channels directions) (id : ConnId) (channel : plain.Channel)
    (there : map.get channels id ≡ Some channel) where
  abbrev found : ℕ → Option plain_direction.Direction
  found side = map.get directions (dir id side)

  pub direction_there : (side : ℕ) → side < 2
      → (x : plain_direction.Direction) × (map.get directions (dir id side) ≡ Some x)
  direction_there zero low = is_there (found 0) (whole.sides (dir id 0) ∙ ap is_some there)
  direction_there (suc zero) low = is_there (found 1) (whole.sides (dir id 1) ∙ ap is_some there)
  direction_there (suc (suc n)) low = absurd (omega arith)

  closed_quiet : (o q : Option plain_direction.Direction) (x w : plain_direction.Direction) → o ≡ Some x
      → q ≡ Some w → IsDirection w → IsClosed o q → IsQuiet (filled o) (filled q)
  closed_quiet o q x w out inward is closed =
      subst (λ p. IsQuiet (filled p) (filled q)) (sym out)
      (subst (λ p. IsQuiet (filled_as x) (filled p)) (sym inward)
      (quiet x w (closed.ended x out) (closed.unread w inward) is))

  quiet_at : (side : ℕ) → side < 2 → 1 - side < 2 → (end_of channel side).is_open ≡ false
      → IsQuiet (filled (found side)) (filled (found (1 - side)))
  quiet_at side low other shut =
      let out = direction_there side low in
      let inward = direction_there (1 - side) other in
      closed_quiet (found side) (found (1 - side)) out.0 inward.0 out.1 inward.1
      (whole.each (dir id (1 - side)) inward.0 inward.1) (whole.closed id side channel there low shut)

  filled_channel : Channel
  filled_channel = both (filled (found 0)) (filled (found 1)) channel.first.is_open channel.second.is_open

  each_stands : (side : ℕ) → side < 2 → (x : plain_direction.Direction) → found side ≡ Some x
      → IsStanding x (direction_of side filled_channel)
  unfolding filled_channel
  each_stands zero low x is = subst (λ o. IsStanding x (filled o)) (sym is) (stands x)
  each_stands (suc zero) low x is = subst (λ o. IsStanding x (filled o)) (sym is) (stands x)
  each_stands (suc (suc n)) low x is = absurd (omega arith)

  stands_filled : IsFilled directions id channel filled_channel
  unfolding filled_channel
  stands_filled = record { open_ends = refl; each = each_stands }

  -- all steps, on the channels of the network
  abbrev end_0 : Channels → Channels
  end_0 m = closed_unless channel.first.is_open 0 m id

  abbrev end_1 : Channels → Channels
  end_1 m = closed_unless channel.second.is_open 1 m id

  abbrev put_1 : Channels → Channels
  put_1 m = with_direction m (dir id 1) (filled (found 1))

  stepped : (m : Channels) → map.get m id ≡ Some new_channel
      → end_1 (end_0 (put_1 (with_direction m (dir id 0) (filled (found 0)))))
      ≡ map.insert m id filled_channel
  unfolding filled_channel
  stepped m new =
      ap (λ n. end_1 (end_0 n)) (with_both m id new (filled (found 0)) (filled (found 1)))
      ∙ closes m id new (filled (found 0)) (filled (found 1)) channel.first.is_open channel.second.is_open
      (whole.open_end id channel there) (quiet_at 0 (omega arith) (omega arith))
      (quiet_at 1 (omega arith) (omega arith))

  pub is_filled : (t a b e n : Network) → map.get t.channels id ≡ Some new_channel
      → a ≡ record t { channels = with_direction t.channels (dir id 0) (filled (found 0)) }
      → b ≡ record a { channels = with_direction a.channels (dir id 1) (filled (found 1)) }
      → e ≡ record b { channels = closed_unless channel.first.is_open 0 b.channels id }
      → n ≡ record e { channels = closed_unless channel.second.is_open 1 e.channels id }
      → (c : Channel) × (IsFilled directions id channel c
      × (n ≡ record t { channels = map.insert t.channels id c }))
  is_filled t a b e n new first second third fourth = (
    filled_channel,
    (
      stands_filled,
      fourth ∙ ap (λ (w : Network). record w { channels = end_1 w.channels }) third
          ∙ ap (λ (w : Network). record w { channels = end_1 (end_0 w.channels) }) second
          ∙ ap (λ (w : Network). record w { channels = end_1 (end_0 (put_1 w.channels)) }) first
          ∙ ap (λ (m : Channels). record t { channels = m }) (stepped t.channels new),
    ),
  )

-- The channels and directions after a side closed, where its other side was open and where that was closed too.
--     closed_keeps      they are channels still
--     Kept, kept_channel      a channel of which a side is named is there, with its kind and addresses
--     opened_after      its sides are open where they are named
use Rattle.std.proofs.Common.{◌≡◌, ◌≢◌, ℕ, ◌-◌, ◌<◌, ◌≤◌, Bool, true, false, cond, [], refl, sym, ap, subst, ◌∙◌, arith, ⊎_elim}
use Rattle.std.specs.Prelude.{◌&&◌, ◌||◌, nat_lt, zero, suc, Option, Some, None, is_some}
use Rattle.std.specs.FinMap as map
use Rattle.std.proofs.lemmas.List.Elements.{All-nil}
use Rattle.plain_process.proofs.OfViews.MapLaws.{get_insert_same, get_insert_other, get_remove_same, get_remove_other, same_or_other, true_false}
use Rattle.id_maps.specs.OfSysAbi.declared.identity.ConnId.{ConnId}
use Rattle.id_maps.specs.OfSysAbi.declared.identity.Dir.{Dir}
use Rattle.id_maps.specs.OfSysAbi.declared.identity.VirtAddr.{VirtAddr}
use Rattle.id_maps.proofs.OfSysAbi.OrderLaws.{conn_total, conn_exact, dir_total, dir_exact}
use Rattle.plain_process.specs.Valid.{IsByte, Each}
use Rattle.plain_tables.specs.declared.channel.Channel.{Channel}
use Rattle.plain_tables.specs.declared.channel.ChannelKind.{ChannelKind}
use Rattle.plain_tables.specs.declared.channel.ChannelKind.TheVariants.{Pipe}
use Rattle.plain_tables.specs.declared.channel.Direction.{Direction}
use Rattle.plain_tables.specs.Tables.{Channels, Directions, changed_at}
use Rattle.plain_tables.specs.Objects.{dir, end_of}
use Rattle.plain_tables.specs.Closing.{with_closed, with_end, without_reader, silenced, closed_channels_by, closed_channels, closed_directions_by, closed_directions}
use Rattle.plain_tables.specs.Valid.Channels.{AreChannels, IsDirection, IsClosed, HasAddress}
use Rattle.plain_tables.proofs.Entries.{each_with, there_same, as_many, len_without, still_there, not_removed}
use Rattle.plain_tables.proofs.Changes.{each_changed, changed_test, changed_other, changed_from}

-- a channel with one side less
record IsHalf (channel half : Channel) (side : ℕ) : Type 0 where
  kind : half.kind ≡ channel.kind
  first : half.first.address ≡ channel.first.address
  second : half.second.address ≡ channel.second.address
  shut : (end_of half side).is_open ≡ false
  other : (end_of half (1 - side)).is_open ≡ (end_of channel (1 - side)).is_open
  some : (end_of channel (1 - side)).is_open ≡ true → (half.first.is_open || half.second.is_open) ≡ true

or_true : (a : Bool) → (a || true) ≡ true
or_true true = refl
or_true false = refl

is_half : (channel : Channel) (side : ℕ) → side < 2 → IsHalf channel (with_closed side channel) side
is_half channel zero low = record { kind = refl; first = refl; second = refl; shut = refl; other = refl; some = λ goes. goes }
is_half channel (suc zero) low = record {
  kind = refl;
  first = refl;
  second = refl;
  shut = refl;
  other = refl;
  some = λ goes. ap (λ b. b || false) goes;
}
is_half channel (suc (suc n)) low = absurd (omega arith)

-- of two sides the one or the other
sides : (P : ℕ → Type 0) (side : ℕ) → side < 2 → P side → P (1 - side) → (s : ℕ) → s < 2 → P s
sides P zero low here there zero below = here
sides P zero low here there (suc zero) below = there
sides P (suc zero) low here there zero below = there
sides P (suc zero) low here there (suc zero) below = here
sides P side low here there (suc (suc n)) below = absurd (omega arith)
sides P (suc (suc n)) low here there s below = absurd (omega arith)

-- a direction that was as quiet or less
record Quieter (directions : Directions) (at : Dir) (direction : Direction) : Type 0 where
  old : Direction
  there : map.get directions at ≡ Some old
  empty : old.left ≡ [] → direction.left ≡ []
  ended : old.ended ≡ true → direction.ended ≡ true
  unread : old.unread ≡ true → direction.unread ≡ true
  fits : IsDirection old → IsDirection direction

fits_empty : (ended : Bool) → IsDirection (record { left = []; arrived = 0; ended = ended; unread = true })
fits_empty ended = record { arrived = omega arith; size = omega arith; bytes = All-nil IsByte; unread = λ is. refl }

module _ (directions : Directions) (conn : ConnId) (side : ℕ) where
  ended_one : Directions
  ended_one = changed_at directions (dir conn side) with_end

  quieter_first : Each ended_one (Quieter directions)
  unfolding ended_one
  quieter_first = each_changed dir_total dir_exact directions (dir conn side) with_end (Quieter directions)
      (λ old there. record {
        old = old;
        there = there;
        empty = λ is. is;
        ended = λ is. refl;
        unread = λ is. is;
        fits = λ is. record { arrived = is.arrived; size = is.size; bytes = is.bytes; unread = is.unread };
      })
      (λ at old there. record { old = old; there = there; empty = λ is. is; ended = λ is. is; unread = λ is. is; fits = λ is. is })

  quieter : Each (silenced directions conn side) (Quieter directions)
  unfolding silenced ended_one
  quieter = each_changed dir_total dir_exact ended_one (dir conn (1 - side)) without_reader (Quieter directions)
      (λ one there.
      let was = quieter_first (dir conn (1 - side)) one there in
      record {
        old = was.old;
        there = was.there;
        empty = λ is. refl;
        ended = was.ended;
        unread = λ is. refl;
        fits = λ is. fits_empty one.ended;
      })
      quieter_first

  quiet_same : (at : Dir) → is_some (map.get (silenced directions conn side) at) ≡ is_some (map.get directions at)
  unfolding silenced ended_one
  quiet_same at = changed_test dir_total dir_exact ended_one (dir conn (1 - side)) without_reader is_some (λ one there. refl) at
      ∙ changed_test dir_total dir_exact directions (dir conn side) with_end is_some (λ one there. refl) at

  unread_there : (direction : Direction) → map.get (silenced directions conn side) (dir conn (1 - side)) ≡ Some direction → direction.unread ≡ true
  unfolding silenced ended_one
  unread_there direction found =
      let from = changed_from dir_total dir_exact ended_one (dir conn (1 - side)) without_reader direction found in
      ap (λ (d : Direction). d.unread) from.2

  ended_there : side < 2 → (direction : Direction) → map.get (silenced directions conn side) (dir conn side) ≡ Some direction → direction.ended ≡ true
  unfolding silenced ended_one
  ended_there low direction found =
      let apart : dir conn side ≢ dir conn (1 - side) = λ same. let number : side ≡ 1 - side = ap (λ (d : Dir). d.side) same in omega arith in
      let first : map.get ended_one (dir conn side) ≡ Some direction = sym (changed_other dir_total dir_exact ended_one (dir conn (1 - side)) without_reader (dir conn side) apart) ∙ found in
      let from = changed_from dir_total dir_exact directions (dir conn side) with_end direction first in
      ap (λ (d : Direction). d.ended) from.2

module _ (channels : Channels) (directions : Directions) (conn : ConnId) (side : ℕ) (channel : Channel) (is : AreChannels channels directions) (known : map.get channels conn ≡ Some channel) (low : side < 2) where
  known_there : is_some (map.get channels conn) ≡ true
  known_there = ap is_some known

  -- the other side is open
  half_keeps : (half : Channel) → IsHalf channel half side → (end_of channel (1 - side)).is_open ≡ true → AreChannels (map.insert channels conn half) (silenced directions conn side)
  half_keeps half has goes =
      let old = is.addresses conn channel known in
      record {
        count = subst (λ n. n ≤ 256) (sym (as_many conn_total conn_exact channels conn half known_there)) is.count;
        sides = λ at. quiet_same directions conn side at ∙ is.sides at ∙ ap (λ b. nat_lt at.side 2 && b) (sym (there_same conn_total conn_exact channels conn half at.conn known_there));
        addresses = each_with conn_total conn_exact (λ c ch. HasAddress ch.kind ch.first.address × HasAddress ch.kind ch.second.address) channels conn half
            (has_address (sym has.kind) (sym has.first) old.0, has_address (sym has.kind) (sym has.second) old.1)
            (λ c ch other found. is.addresses c ch found);
        open_end = each_with conn_total conn_exact (λ c ch. (ch.first.is_open || ch.second.is_open) ≡ true) channels conn half (has.some goes) (λ c ch other found. is.open_end c ch found);
        each = λ at direction found. let was = quieter directions conn side at direction found in was.fits (is.each at was.old was.there);
        pipes = λ c ch direction found pipe there.
            let was = quieter directions conn side (dir c 1) direction there in
            was.empty (each_with conn_total conn_exact (λ q w. w.kind ≡ Pipe → map.get directions (dir q 1) ≡ Some was.old → was.old.left ≡ []) channels conn half
            (λ piped stands. is.pipes conn channel was.old known (sym has.kind ∙ piped) stands) (λ q w other stood piped stands. is.pipes q w was.old stood piped stands)
            c ch found pipe was.there);
        closed = λ c s ch found below shut. ⊎_elim
            (λ here.
            let at_conn : map.get (map.insert channels conn half) conn ≡ Some ch = subst (λ x. map.get (map.insert channels conn half) x ≡ Some ch) here found in
            let same : half ≡ ch = let put = get_insert_same conn_total conn_exact channels conn half in cc in
            let shut_half : (end_of half s).is_open ≡ false = subst (λ w. (end_of w s).is_open ≡ false) (sym same) shut in
            subst (λ x. IsClosed (map.get (silenced directions conn side) (dir x s)) (map.get (silenced directions conn side) (dir x (1 - s)))) (sym here)
            (sides (λ t. (end_of half t).is_open ≡ false → IsClosed (map.get (silenced directions conn side) (dir conn t)) (map.get (silenced directions conn side) (dir conn (1 - t)))) side low
            (λ closed. record { ended = ended_there directions conn side low; unread = unread_there directions conn side })
            (λ closed. true_false (sym (sym closed ∙ has.other ∙ goes)))
            s below shut_half))
            (λ other.
            let was = is.closed c s ch (sym (get_insert_other conn_total conn_exact channels conn half c other) ∙ found) below shut in
            record {
              ended = λ direction there. let q = quieter directions conn side (dir c s) direction there in q.ended (was.ended q.old q.there);
              unread = λ direction there. let q = quieter directions conn side (dir c (1 - s)) direction there in q.unread (was.unread q.old q.there);
            })
            (same_or_other conn_total conn_exact c conn);
      }
    where
      has_address : {kind other : ChannelKind} {address end : Option VirtAddr} → kind ≡ other → address ≡ end → HasAddress kind address → HasAddress other end
      has_address {kind} {other} {address} {end} same at has = subst (λ k. HasAddress k end) same (subst (λ a. HasAddress kind a) at has)

  gone_directions : Directions
  gone_directions = map.remove (map.remove directions (dir conn 0)) (dir conn 1)

  gone_was : (at : Dir) (direction : Direction) → map.get gone_directions at ≡ Some direction → map.get directions at ≡ Some direction
  unfolding gone_directions
  gone_was at direction found = still_there dir_total dir_exact directions (dir conn 0) at direction (still_there dir_total dir_exact (map.remove directions (dir conn 0)) (dir conn 1) at direction found)

  and_false : (a : Bool) → (a && false) ≡ false
  and_false true = refl
  and_false false = refl

  nothing_at : (side : ℕ) → is_some (map.get gone_directions (dir conn side)) ≡ false
  unfolding gone_directions
  nothing_at zero = ap is_some (get_remove_other dir_total dir_exact (map.remove directions (dir conn 0)) (dir conn 1) (dir conn 0) (λ same. let number : zero ≡ 1 = ap (λ (d : Dir). d.side) same in omega arith)
      ∙ get_remove_same dir_total dir_exact directions (dir conn 0))
  nothing_at (suc zero) = ap is_some (get_remove_same dir_total dir_exact (map.remove directions (dir conn 0)) (dir conn 1))
  nothing_at (suc (suc n)) = absent (map.get gone_directions (dir conn (suc (suc n)))) refl
    where
      absent : (found : Option Direction) → map.get gone_directions (dir conn (suc (suc n))) ≡ found → is_some found ≡ false
      absent None there = refl
      absent (Some direction) there =
          let was = ap is_some (gone_was (dir conn (suc (suc n))) direction there) in
          let high : nat_lt (suc (suc n)) 2 ≡ false = grind arith in
          let none : (nat_lt (suc (suc n)) 2 && is_some (map.get channels conn)) ≡ false = ap (λ b. b && is_some (map.get channels conn)) high in
          true_false (sym was ∙ is.sides (dir conn (suc (suc n))) ∙ none)

  -- so was the other
  gone_keeps : AreChannels (map.remove channels conn) gone_directions
  unfolding gone_directions
  gone_keeps = record {
    count = let less = len_without conn_total channels conn in let few = is.count in omega arith;
    sides = λ at. ⊎_elim
        (λ here. subst (λ x. is_some (map.get gone_directions (dir x at.side)) ≡ (nat_lt at.side 2 && is_some (map.get (map.remove channels conn) x))) (sym here)
        (nothing_at at.side ∙ sym (ap (λ b. nat_lt at.side 2 && b) (ap is_some (get_remove_same conn_total conn_exact channels conn)) ∙ and_false (nat_lt at.side 2))))
        (λ other. ap is_some (gone_other at other) ∙ is.sides at ∙ ap (λ b. nat_lt at.side 2 && b) (ap is_some (sym (get_remove_other conn_total conn_exact channels conn at.conn other))))
        (same_or_other conn_total conn_exact at.conn conn);
    addresses = λ c ch found. is.addresses c ch (still_there conn_total conn_exact channels conn c ch found);
    open_end = λ c ch found. is.open_end c ch (still_there conn_total conn_exact channels conn c ch found);
    each = λ at direction found. is.each at direction (gone_was at direction found);
    pipes = λ c ch direction found pipe there. is.pipes c ch direction (still_there conn_total conn_exact channels conn c ch found) pipe (gone_was (dir c 1) direction there);
    closed = λ c s ch found below shut.
        let was = is.closed c s ch (still_there conn_total conn_exact channels conn c ch found) below shut in
        record {
          ended = λ direction there. was.ended direction (gone_was (dir c s) direction there);
          unread = λ direction there. was.unread direction (gone_was (dir c (1 - s)) direction there);
        };
  }
    where
      gone_other : (at : Dir) → at.conn ≢ conn → map.get gone_directions at ≡ map.get directions at
      gone_other at other =
          let apart : (s : ℕ) → at ≢ dir conn s = λ s same. other (ap (λ (d : Dir). d.conn) same) in
          get_remove_other dir_total dir_exact (map.remove directions (dir conn 0)) (dir conn 1) at (apart 1)
          ∙ get_remove_other dir_total dir_exact directions (dir conn 0) at (apart 0)

  channels_are : (b : Bool) → (end_of channel (1 - side)).is_open ≡ b → closed_channels channels conn side ≡ cond b (map.insert channels conn (with_closed side channel)) (map.remove channels conn)
  unfolding closed_channels
  channels_are b is = ap (closed_channels_by channels conn side) known ∙ ap (λ x. cond x (map.insert channels conn (with_closed side channel)) (map.remove channels conn)) is

  directions_are : (b : Bool) → (end_of channel (1 - side)).is_open ≡ b → closed_directions channels directions conn side ≡ cond b (silenced directions conn side) gone_directions
  unfolding closed_directions gone_directions
  directions_are b is = ap (closed_directions_by directions conn side) known ∙ ap (λ x. cond x (silenced directions conn side) gone_directions) is

  pub closed_keeps : AreChannels (closed_channels channels conn side) (closed_directions channels directions conn side)
  closed_keeps = chosen (end_of channel (1 - side)).is_open refl
    where
      chosen : (b : Bool) → (end_of channel (1 - side)).is_open ≡ b → AreChannels (closed_channels channels conn side) (closed_directions channels directions conn side)
      chosen true goes = subst (λ c. AreChannels c (closed_directions channels directions conn side)) (sym (channels_are true goes))
          (subst (AreChannels (map.insert channels conn (with_closed side channel))) (sym (directions_are true goes)) (half_keeps (with_closed side channel) (is_half channel side low) goes))
      chosen false shut = subst (λ c. AreChannels c (closed_directions channels directions conn side)) (sym (channels_are false shut))
          (subst (AreChannels (map.remove channels conn)) (sym (directions_are false shut)) gone_keeps)

-- a channel that is there as it was, but for a side that may have closed
pub record Kept (channels : Channels) (conn : ConnId) (old : Channel) : Type 0 where
  pub channel : Channel
  pub there : map.get channels conn ≡ Some channel
  pub kind : channel.kind ≡ old.kind
  pub first : channel.first.address ≡ old.first.address
  pub second : channel.second.address ≡ old.second.address

-- a side is open where it is named
abbrev pub AreOpened : Channels → (ConnId → ℕ → Bool) → Type 0
AreOpened channels named = (conn : ConnId) (channel : Channel) (side : ℕ) → map.get channels conn ≡ Some channel → side < 2 → (end_of channel side).is_open ≡ named conn side

module _ (channels : Channels) (conn : ConnId) (side : ℕ) (channel : Channel) (known : map.get channels conn ≡ Some channel) (low : side < 2) where
  are_by : (b : Bool) → (end_of channel (1 - side)).is_open ≡ b → closed_channels channels conn side ≡ cond b (map.insert channels conn (with_closed side channel)) (map.remove channels conn)
  unfolding closed_channels
  are_by b is = ap (closed_channels_by channels conn side) known ∙ ap (λ x. cond x (map.insert channels conn (with_closed side channel)) (map.remove channels conn)) is

  -- what was there before each of those that are there now
  pub closed_was : (c : ConnId) (ch : Channel) → map.get (closed_channels channels conn side) c ≡ Some ch
      → (old : Channel) × (map.get channels c ≡ Some old) × (ch.first.address ≡ old.first.address) × (ch.second.address ≡ old.second.address)
  closed_was c ch found = chosen (end_of channel (1 - side)).is_open refl
    where
      Was : ConnId → Channel → Type 0
      Was c ch = (old : Channel) × (map.get channels c ≡ Some old) × (ch.first.address ≡ old.first.address) × (ch.second.address ≡ old.second.address)

      chosen : (b : Bool) → (end_of channel (1 - side)).is_open ≡ b
          → (old : Channel) × (map.get channels c ≡ Some old) × (ch.first.address ≡ old.first.address) × (ch.second.address ≡ old.second.address)
      chosen true goes =
          let half = is_half channel side low in
          each_with conn_total conn_exact (λ q w. (old : Channel) × (map.get channels q ≡ Some old) × (w.first.address ≡ old.first.address) × (w.second.address ≡ old.second.address)) channels conn (with_closed side channel)
          (channel, known, half.first, half.second) (λ q w other was. (w, was, refl, refl)) c ch (sym (ap (λ m. map.get m c) (are_by true goes)) ∙ found)
      chosen false shut = (ch, still_there conn_total conn_exact channels conn c ch (sym (ap (λ m. map.get m c) (are_by false shut)) ∙ found), refl, refl)

  module _ (before after : ConnId → ℕ → Bool) (opened : AreOpened channels before) (gone : after conn side ≡ false) (others : (c : ConnId) (s : ℕ) → (c ≡ conn → s ≡ side → ⊥) → before c s ≡ after c s) where
    other_side : 1 - side ≡ side → ⊥
    other_side same = omega arith

    pub opened_after : AreOpened (closed_channels channels conn side) after
    opened_after c ch s found below = chosen (end_of channel (1 - side)).is_open refl
      where
        chosen : (b : Bool) → (end_of channel (1 - side)).is_open ≡ b → (end_of ch s).is_open ≡ after c s
        chosen true goes =
            let half = is_half channel side low in
            each_with conn_total conn_exact (λ q w. (t : ℕ) → t < 2 → (end_of w t).is_open ≡ after q t) channels conn (with_closed side channel)
            (sides (λ t. (end_of (with_closed side channel) t).is_open ≡ after conn t) side low (half.shut ∙ sym gone)
            (half.other ∙ opened conn channel (1 - side) known (omega arith) ∙ others conn (1 - side) (λ c s. other_side s)))
            (λ q w other was t small. opened q w t was small ∙ others q t (λ here s. other here))
            c ch (sym (ap (λ m. map.get m c) (are_by true goes)) ∙ found) s below
        chosen false shut =
            let left : map.get (map.remove channels conn) c ≡ Some ch = sym (ap (λ m. map.get m c) (are_by false shut)) ∙ found in
            let other = not_removed conn_total conn_exact channels conn c ch left in
            opened c ch s (still_there conn_total conn_exact channels conn c ch left) below ∙ others c s (λ here t. other here)

    pub kept_channel : (c : ConnId) (s : ℕ) → s < 2 → after c s ≡ true → (old : Channel) → map.get channels c ≡ Some old → Kept (closed_channels channels conn side) c old
    kept_channel c s below named old was = chosen (end_of channel (1 - side)).is_open refl
      where
        chosen : (b : Bool) → (end_of channel (1 - side)).is_open ≡ b → Kept (closed_channels channels conn side) c old
        chosen true goes = ⊎_elim
            (λ here.
            let half = is_half channel side low in
            let same : old ≡ channel = let one = subst (λ x. map.get channels x ≡ Some old) here was in cc in
            record {
              channel = with_closed side channel;
              there = ap (λ m. map.get m c) (are_by true goes) ∙ subst (λ x. map.get (map.insert channels conn (with_closed side channel)) x ≡ Some (with_closed side channel)) (sym here)
                  (get_insert_same conn_total conn_exact channels conn (with_closed side channel));
              kind = half.kind ∙ ap (λ (w : Channel). w.kind) (sym same);
              first = half.first ∙ ap (λ (w : Channel). w.first.address) (sym same);
              second = half.second ∙ ap (λ (w : Channel). w.second.address) (sym same);
            })
            (λ other. record {
              channel = old;
              there = ap (λ m. map.get m c) (are_by true goes) ∙ get_insert_other conn_total conn_exact channels conn (with_closed side channel) c other ∙ was;
              kind = refl;
              first = refl;
              second = refl;
            })
            (same_or_other conn_total conn_exact c conn)
        chosen false shut = ⊎_elim
            (λ here.
            let at_conn : after conn s ≡ true = subst (λ x. after x s ≡ true) here named in
            let none : after conn s ≡ false = sides (λ t. after conn t ≡ false) side low gone
            (sym (others conn (1 - side) (λ c s. other_side s)) ∙ sym (opened conn channel (1 - side) known (omega arith)) ∙ shut) s below in
            true_false (sym at_conn ∙ none))
            (λ other. record {
              channel = old;
              there = ap (λ m. map.get m c) (are_by false shut) ∙ get_remove_other conn_total conn_exact channels conn c other ∙ was;
              kind = refl;
              first = refl;
              second = refl;
            })
            (same_or_other conn_total conn_exact c conn)

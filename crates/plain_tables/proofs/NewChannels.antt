-- A channel more, open at both sides, with nothing sent.
--     new_channel_keeps      they are channels      Stands, channel_stands      a channel that was there is as it was
use Rattle.std.proofs.Common.{◌≡◌, ◌≢◌, ℕ, ◌-◌, ◌<◌, Bool, true, false, [], refl, sym, ap, subst, ◌∙◌, arith, ⊎_elim}
use Rattle.std.specs.Prelude.{◌&&◌, ◌||◌, nat_lt, zero, suc, Some, None, is_some}
use Rattle.std.specs.FinMap as map
use Rattle.std.proofs.lemmas.List.Elements.{All-nil}
use Rattle.plain_process.proofs.OfViews.MapLaws.{get_insert_same, get_insert_other, same_or_other, true_false}
use Rattle.id_maps.specs.OfSysAbi.declared.identity.ConnId.{ConnId}
use Rattle.id_maps.specs.OfSysAbi.declared.identity.Dir.{Dir}
use Rattle.id_maps.proofs.OfSysAbi.OrderLaws.{conn_total, conn_exact, dir_total, dir_exact}
use Rattle.plain_process.specs.Valid.{IsByte}
use Rattle.plain_tables.specs.declared.channel.Channel.{Channel}
use Rattle.plain_tables.specs.declared.channel.ChannelKind.TheVariants.{Pipe}
use Rattle.plain_tables.specs.declared.channel.Direction.{Direction}
use Rattle.plain_tables.specs.Tables.{Channels, Directions}
use Rattle.plain_tables.specs.Objects.{dir, end_of}
use Rattle.plain_tables.specs.Valid.Channels.{AreChannels, IsDirection, IsClosed, HasAddress}
use Rattle.plain_tables.proofs.Entries.{each_with, len_with}

abbrev pub empty : Direction
empty = record { left = []; arrived = 0; ended = false; unread = false }

empty_is : IsDirection empty
empty_is = record { arrived = omega arith; size = omega arith; bytes = All-nil IsByte; unread = λ is. refl }

module _ (channels : Channels) (directions : Directions) (conn : ConnId) (channel : Channel) (is : AreChannels channels directions) (new : map.get channels conn ≡ None)
    (first : channel.first.is_open ≡ true) (second : channel.second.is_open ≡ true) where
  both : Directions
  both = map.insert (map.insert directions (dir conn 0) empty) (dir conn 1) empty

  other_conn : (at : Dir) → at.conn ≢ conn → map.get (map.insert (map.insert directions (dir conn 0) empty) (dir conn 1) empty) at ≡ map.get directions at
  other_conn at other =
      let apart : (s : ℕ) → at ≢ dir conn s = λ s same. other (ap (λ (d : Dir). d.conn) same) in
      get_insert_other dir_total dir_exact (map.insert directions (dir conn 0) empty) (dir conn 1) empty at (apart 1) ∙ get_insert_other dir_total dir_exact directions (dir conn 0) empty at (apart 0)

  old_conn : (c : ConnId) (ch : Channel) → map.get channels c ≡ Some ch → c ≢ conn
  old_conn c ch found here = let there : map.get channels conn ≡ Some ch = subst (λ x. map.get channels x ≡ Some ch) here found in cc

  open_sides : (s : ℕ) → s < 2 → (end_of channel s).is_open ≡ true
  open_sides zero low = first
  open_sides (suc zero) low = second
  open_sides (suc (suc n)) low = absurd (omega arith)

  sides_at : (s : ℕ) → is_some (map.get (map.insert (map.insert directions (dir conn 0) empty) (dir conn 1) empty) (dir conn s)) ≡ nat_lt s 2
  sides_at zero = ap is_some (get_insert_other dir_total dir_exact (map.insert directions (dir conn 0) empty) (dir conn 1) empty (dir conn 0)
      (λ same. let number : zero ≡ 1 = ap (λ (d : Dir). d.side) same in omega arith) ∙ get_insert_same dir_total dir_exact directions (dir conn 0) empty)
  sides_at (suc zero) = ap is_some (get_insert_same dir_total dir_exact (map.insert directions (dir conn 0) empty) (dir conn 1) empty)
  sides_at (suc (suc n)) =
      let apart : (s : ℕ) → s < 2 → dir conn (suc (suc n)) ≢ dir conn s = λ s low same. let number : suc (suc n) ≡ s = ap (λ (d : Dir). d.side) same in omega arith in
      let high : nat_lt (suc (suc n)) 2 ≡ false = grind arith in
      ap is_some (get_insert_other dir_total dir_exact (map.insert directions (dir conn 0) empty) (dir conn 1) empty (dir conn (suc (suc n))) (apart 1 (omega arith))
      ∙ get_insert_other dir_total dir_exact directions (dir conn 0) empty (dir conn (suc (suc n))) (apart 0 (omega arith)))
      ∙ is.sides (dir conn (suc (suc n))) ∙ ap (λ b. b && is_some (map.get channels conn)) high ∙ sym high

  and_true : (b : Bool) → (b && true) ≡ b
  and_true true = refl
  and_true false = refl

  pub new_channel_keeps : map.len channels < 256 → HasAddress channel.kind channel.first.address → HasAddress channel.kind channel.second.address
      → AreChannels (map.insert channels conn channel) (map.insert (map.insert directions (dir conn 0) empty) (dir conn 1) empty)
  new_channel_keeps few one two = record {
    count = let most = len_with conn_total channels conn channel in omega arith;
    sides = λ at. ⊎_elim
        (λ here. subst (λ x. is_some (map.get (map.insert (map.insert directions (dir conn 0) empty) (dir conn 1) empty) (dir x at.side)) ≡ (nat_lt at.side 2 && is_some (map.get (map.insert channels conn channel) x))) (sym here)
        (sides_at at.side ∙ sym (ap (λ b. nat_lt at.side 2 && b) (ap is_some (get_insert_same conn_total conn_exact channels conn channel)) ∙ and_true (nat_lt at.side 2))))
        (λ other. ap is_some (other_conn at other) ∙ is.sides at ∙ ap (λ b. nat_lt at.side 2 && b) (ap is_some (sym (get_insert_other conn_total conn_exact channels conn channel at.conn other))))
        (same_or_other conn_total conn_exact at.conn conn);
    addresses = each_with conn_total conn_exact (λ c ch. HasAddress ch.kind ch.first.address × HasAddress ch.kind ch.second.address) channels conn channel (one, two) (λ c ch other found. is.addresses c ch found);
    open_end = each_with conn_total conn_exact (λ c ch. (ch.first.is_open || ch.second.is_open) ≡ true) channels conn channel (ap (λ b. b || channel.second.is_open) first) (λ c ch other found. is.open_end c ch found);
    each = each_with dir_total dir_exact (λ at d. IsDirection d) (map.insert directions (dir conn 0) empty) (dir conn 1) empty empty_is
        (λ at d other found. each_with dir_total dir_exact (λ a e. IsDirection e) directions (dir conn 0) empty empty_is (λ a e apart was. is.each a e was) at d found);
    pipes = λ c ch d found pipe there. each_with conn_total conn_exact (λ q w. w.kind ≡ Pipe → map.get (map.insert (map.insert directions (dir conn 0) empty) (dir conn 1) empty) (dir q 1) ≡ Some d → d.left ≡ []) channels conn channel
        (λ piped stands. let same : empty ≡ d = let put = get_insert_same dir_total dir_exact (map.insert directions (dir conn 0) empty) (dir conn 1) empty in cc in ap (λ (e : Direction). e.left) (sym same))
        (λ q w other was piped stands. is.pipes q w d was piped (sym (other_conn (dir q 1) other) ∙ stands))
        c ch found pipe there;
    closed = λ c s ch found low shut. each_with conn_total conn_exact
        (λ q w. (end_of w s).is_open ≡ false → IsClosed (map.get (map.insert (map.insert directions (dir conn 0) empty) (dir conn 1) empty) (dir q s)) (map.get (map.insert (map.insert directions (dir conn 0) empty) (dir conn 1) empty) (dir q (1 - s)))) channels conn channel
        (λ closed. true_false (sym (open_sides s low) ∙ closed))
        (λ q w other was closed.
        let old = is.closed q s w was low closed in
        record {
          ended = λ d there. old.ended d (sym (other_conn (dir q s) other) ∙ there);
          unread = λ d there. old.unread d (sym (other_conn (dir q (1 - s)) other) ∙ there);
        })
        c ch found shut;
  }

  pub channel_stands : (c : ConnId) (ch : Channel) → map.get channels c ≡ Some ch → map.get (map.insert channels conn channel) c ≡ Some ch
  channel_stands c ch found = get_insert_other conn_total conn_exact channels conn channel c (old_conn c ch found) ∙ found

-- A channel whose last open end is closed is gone; what a list of closes does, one by one.
use Rattle.std.proofs.Common.{◌≡◌, ℕ, Bool, true, false, List, [], ◌∷◌, drop, length, ◌<◌, refl, sym, ap, ◌∙◌, arith}
use Rattle.std.specs.Prelude.{Option, Some, None, slice_get, if◌then◌else◌}
use Rattle.std.specs.Option.{option_map, option_map_or}
use Rattle.std.specs.FinMap as map
use Rattle.std.proofs.lemmas.Option.{same_Some, none-some}
use Rattle.virt_ids.proofs.OfViews.MapLaws.{true_false, remove_insert}
use Rattle.virt_ids.specs.OfSysAbi.declared.identity.ConnId.{ConnId}
use Rattle.virt_ids.proofs.OfSysAbi.OrderLaws.{conn_total, conn_exact}
use Rattle.wire_channels.specs.declared.channel.Channel.{Channel}
use Rattle.wire_channels.specs.Channels.{Channels, is_open, without_end, put_back, after_close, after_closes, with_closed, stays_open}

first_of_two : {A : Type 0} (b : Bool) (x y : A) → b ≡ true → x ≡ (if b then x else y)
first_of_two true x y is = refl
first_of_two false x y is = true_false (sym is)

second_of_two : {A : Type 0} (b : Bool) (x y : A) → b ≡ false → y ≡ (if b then x else y)
second_of_two true x y is = true_false is
second_of_two false x y is = refl

kept : (side : ℕ) (m : Channels) (id : ConnId) (found : Option Channel) → stays_open side found ≡ true
    → option_map_or (λ channel. map.insert m id (without_end side channel)) found m ≡ put_back m id (option_map (without_end side) found)
kept side m id None is = refl
kept side m id (Some channel) is = first_of_two (is_open (without_end side channel)) (map.insert m id (without_end side channel)) (map.remove m id) is

taken_out : (side : ℕ) (m : Channels) (id : ConnId) (found : Option Channel) → stays_open side found ≡ false
    → map.remove (option_map_or (λ channel. map.insert m id (without_end side channel)) found m) id ≡ put_back m id (option_map (without_end side) found)
taken_out side m id None is = true_false is
taken_out side m id (Some channel) is =
    remove_insert conn_total conn_exact m id (without_end side channel)
    ∙ second_of_two (is_open (without_end side channel)) (map.insert m id (without_end side channel)) (map.remove m id) is

pub after_other_end : (side : ℕ) (m closed : Channels) (id : ConnId) (opens : Bool) → opens ≡ stays_open side (map.get m id) → opens ≡ true → closed ≡ with_closed side m id → closed ≡ after_close side m id
after_other_end side m closed id opens told stays is = is ∙ kept side m id (map.get m id) (sym told ∙ stays)

pub after_last_end : (side : ℕ) (m closed gone : Channels) (id : ConnId) (opens : Bool) → opens ≡ stays_open side (map.get m id) → opens ≡ false → closed ≡ with_closed side m id → gone ≡ map.remove closed id → gone ≡ after_close side m id
after_last_end side m closed gone id opens told closes is removed =
    removed ∙ ap (λ n. map.remove n id) is ∙ taken_out side m id (map.get m id) (sym told ∙ closes)

-- one close of a list, the first one
pub closes-first : (side : ℕ) (m next : Channels) (ids rest : List ConnId) (id : ConnId) → Some id ≡ slice_get ids 0 → rest ≡ drop 1 ids → next ≡ after_close side m id
    → after_closes side next rest ≡ after_closes side m ids
closes-first side m next [] rest id is rest_is next_is = absurd (none-some id (sym is))
closes-first side m next (i ∷ ids) rest id is rest_is next_is =
    ap (λ n. after_closes side n rest) (next_is ∙ ap (after_close side m) (same_Some id i is)) ∙ ap (after_closes side (after_close side m i)) rest_is

pub closes-none : (side : ℕ) (m : Channels) (ids : List ConnId) → None ≡ slice_get ids 0 → m ≡ after_closes side m ids
closes-none side m [] is = refl
closes-none side m (i ∷ ids) is = absurd (none-some i is)

pub shorter : (ids rest : List ConnId) (id : ConnId) → Some id ≡ slice_get ids 0 → rest ≡ drop 1 ids → length rest < length ids
shorter [] rest id is rest_is = absurd (none-some id (sym is))
shorter (i ∷ ids) rest id is rest_is = let e : length rest ≡ length ids = ap length rest_is in omega arith

-- the queue of nobody, after its first was taken
pub rest-none : (ids rest : List ConnId) → None ≡ slice_get ids 0 → rest ≡ drop 1 ids → rest ≡ ids
rest-none [] rest is rest_is = rest_is
rest-none (i ∷ ids) rest is rest_is = absurd (none-some i is)

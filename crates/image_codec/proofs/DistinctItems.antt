-- Lists no two items of which have one key, and the maps that are made of their items.
--     AreDistinct key xs      no two items have one key: so it is of a list that rises (`rising_items`)
--     each_there, filtered_there, flat_there      an item's entry is found in the map made of the list
--     each_found, filtered_found, flat_found      and what is found is the entry of an item
use Rattle.std.proofs.Common.{◌≡◌, Ordering, Less, Equal, List, [], ◌∷◌, map as each, sym, ap, subst, ◌∙◌, ⊎_elim}
use Rattle.std.specs.Prelude.{Option, Some, None, option_map}
use Rattle.std.specs.List.{AllByRecursion, flat_map, filter_map}
use Rattle.std.specs.List.Sorted.{IsStrictlySortedBy}
use Rattle.std.specs.Cmp.{IsTotalOrder, tied_itself}
use Rattle.std.specs.FinMap as map
use Rattle.image_format.specs.Fields.{last_item}
use Rattle.image_format.specs.Texts.{EachFrom}
use Rattle.image_format.proofs.Rising.{IsAfter, each_rising, sorted_rising}
use Rattle.image_codec.proofs.Items.{IsItem, each_item, item_of_each, filtered_item, item_of_filtered, flat_item, item_of_flat, first_or_later, nothing_in, made_found, found_made, OneEach}

module _ {K X : Type 0} (key : X → K) where
  abbrev pub AreDistinct : List X → Type 0
  AreDistinct xs = (x y : X) → IsItem xs x → IsItem xs y → key x ≡ key y → x ≡ y

  module _ {R : K → K → Ordering} (o : IsTotalOrder R) where
    not_under : (k l : K) → R k l ≡ Less → k ≡ l → ⊥
    not_under k l is same = let tied : R l l ≡ Equal = tied_itself o l in let less : R l l ≡ Less = subst (λ j. R j l ≡ Less) same is in cc

    above_first : (k : K) (xs : List X) (y : X) → AllByRecursion (λ q. R k q ≡ Less) (each key xs) → IsItem xs y → R k (key y) ≡ Less
    above_first k [] y are at = absurd (nothing_in y at)
    above_first k (x ∷ xs) y are at = ⊎_elim
        (λ (here : x ≡ y). subst (λ z. R k (key z) ≡ Less) here are.0)
        (λ later. above_first k xs y are.1 later)
        (first_or_later x y xs at)

    pub sorted_distinct : (xs : List X) → IsStrictlySortedBy R (each key xs) → AreDistinct xs
    unfolding IsStrictlySortedBy
    sorted_distinct [] sorted x y at by same = absurd (nothing_in x at)
    sorted_distinct (z ∷ xs) sorted x y at by same = ⊎_elim
        (λ (first : z ≡ x). ⊎_elim
        (λ (second : z ≡ y). sym first ∙ second)
        (λ later. absurd (not_under (key z) (key y) (above_first (key z) xs y sorted.0 later) (ap key first ∙ same)))
        (first_or_later z y xs by))
        (λ behind. ⊎_elim
        (λ (second : z ≡ y). absurd (not_under (key z) (key x) (above_first (key z) xs x sorted.0 behind) (ap key second ∙ sym same)))
        (λ later. sorted_distinct xs sorted.1 x y behind later same)
        (first_or_later z y xs by))
        (first_or_later z x xs at)

    pub rising_items : (P : List X → X → Type 0) → ((front : List X) (x : X) → P front x → IsAfter R (option_map key (last_item front)) (key x))
        → (xs : List X) → EachFrom P [] xs → AreDistinct xs
    rising_items P rises xs fits = sorted_distinct xs (sorted_rising R o None (each key xs) (each_rising R key P rises [] xs fits))

-- the entry of an item in a map made of all items
module _ {K V X : Type 0} {R : K → K → Ordering} (o : IsTotalOrder R) (exact : map.IsAntisymmetric R) where
  one_each : (f : X → K × V) (xs : List X) → AreDistinct (λ x. (f x).0) xs → OneEach o exact (each f xs)
  one_each f xs distinct k v w at by =
      let (x, here, is) = item_of_each f xs (k, v) at in
      let (y, there, too) = item_of_each f xs (k, w) by in
      let same = distinct x y here there (ap (λ (e : K × V). e.0) is ∙ sym (ap (λ (e : K × V). e.0) too)) in
      ap (λ (e : K × V). e.1) (sym is) ∙ ap (λ z. (f z).1) same ∙ ap (λ (e : K × V). e.1) too

  pub each_there : (f : X → K × V) (xs : List X) (x : X) → AreDistinct (λ x. (f x).0) xs → IsItem xs x → map.get (map.from_entries {R = R} (each f xs)) (f x).0 ≡ Some (f x).1
  each_there f xs x distinct at = made_found o exact (each f xs) (f x).0 (f x).1 (one_each f xs distinct) (each_item f xs x at)

  pub each_found : (f : X → K × V) (xs : List X) (k : K) (v : V) → map.get (map.from_entries {R = R} (each f xs)) k ≡ Some v → (x : X) × IsItem xs x × (f x ≡ (k, v))
  each_found f xs k v found = item_of_each f xs (k, v) (found_made o exact (each f xs) k v found)

  pub filtered_there : (f : X → Option (K × V)) (xs : List X) (x : X) (k : K) (v : V)
      → ((y z : X) (w u : V) (q : K) → IsItem xs y → IsItem xs z → f y ≡ Some (q, w) → f z ≡ Some (q, u) → w ≡ u)
      → IsItem xs x → f x ≡ Some (k, v) → map.get (map.from_entries {R = R} (filter_map f xs)) k ≡ Some v
  filtered_there f xs x k v one at is = made_found o exact (filter_map f xs) k v
      (λ q w u first second.
      let (y, here, has) = item_of_filtered f xs (q, w) first in
      let (z, there, too) = item_of_filtered f xs (q, u) second in
      one y z w u q here there has too)
      (filtered_item f xs x (k, v) at is)

  pub filtered_found : (f : X → Option (K × V)) (xs : List X) (k : K) (v : V) → map.get (map.from_entries {R = R} (filter_map f xs)) k ≡ Some v → (x : X) × IsItem xs x × (f x ≡ Some (k, v))
  filtered_found f xs k v found = item_of_filtered f xs (k, v) (found_made o exact (filter_map f xs) k v found)

  pub flat_there : (f : X → List (K × V)) (xs : List X) (x : X) (k : K) (v : V)
      → ((y z : X) (w u : V) (q : K) → IsItem xs y → IsItem xs z → IsItem (f y) (q, w) → IsItem (f z) (q, u) → w ≡ u)
      → IsItem xs x → IsItem (f x) (k, v) → map.get (map.from_entries {R = R} (flat_map f xs)) k ≡ Some v
  flat_there f xs x k v one at in_it = made_found o exact (flat_map f xs) k v
      (λ q w u first second.
      let (y, here, has) = item_of_flat f xs (q, w) first in
      let (z, there, too) = item_of_flat f xs (q, u) second in
      one y z w u q here there has too)
      (flat_item f xs x (k, v) at in_it)

  pub flat_found : (f : X → List (K × V)) (xs : List X) (k : K) (v : V) → map.get (map.from_entries {R = R} (flat_map f xs)) k ≡ Some v → (x : X) × IsItem xs x × IsItem (f x) (k, v)
  flat_found f xs k v found = item_of_flat f xs (k, v) (found_made o exact (flat_map f xs) k v found)

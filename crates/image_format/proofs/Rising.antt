-- Lists whose items rise by a key are lists in the order of their keys, and a map made of them has them as its entries.
--     each_rising      each item of a list that meets a fact with those before it is above the one before
--     sorted_rising      and so the list is sorted
use Rattle.std.proofs.Common.{◌≡◌, Ordering, Less, List, [], ◌∷◌, ◌++◌, length, map as mapped, refl, sym, ap, subst, ◌∙◌, length-append, arith}
use Rattle.std.specs.Prelude.{Option, Some, None, slice_get, option_map, All}
use Rattle.std.proofs.lemmas.List.Elements.{All-nil, All-cons}
use Rattle.std.specs.Cmp.{IsTotalOrder}
use Rattle.std.specs.List.{AllByRecursion}
use Rattle.std.specs.List.Sorted.{IsStrictlySortedBy}
use Rattle.std.specs.Map.{keys_of}
use Rattle.std.specs.FinMap as map
use Rattle.views.proofs.TreeMaps.{entries-from_entries}
use Rattle.image_format.specs.Texts.{EachFrom}
use Rattle.image_format.specs.Fields.{last_item}

at_end : {X : Type 0} (front : List X) (x : X) → slice_get (front ++ x ∷ []) (length front) ≡ Some x
at_end [] x = refl
at_end (y ∷ front) x = at_end front x

pub last_item-push : {X : Type 0} (front : List X) (x : X) → last_item (front ++ x ∷ []) ≡ Some x
last_item-push front x = ap (slice_get (front ++ x ∷ [])) (rw (length-append front (x ∷ [])) (omega arith)) ∙ at_end front x

module _ {K : Type 0} (R : K → K → Ordering) where
  -- the key is above the one before, if there is one
  abbrev pub IsAfter : Option K → K → Type 0
  IsAfter None k = Unit {0}
  IsAfter (Some before) k = R before k ≡ Less

  abbrev pub RisesFrom : Option K → List K → Type 0
  RisesFrom before [] = Unit {0}
  RisesFrom before (k ∷ ks) = IsAfter before k × RisesFrom (Some k) ks

  module _ {X : Type 0} (key : X → K) (P : List X → X → Type 0) (rises : (front : List X) (x : X) → P front x → IsAfter (option_map key (last_item front)) (key x)) where
    pub each_rising : (front items : List X) → EachFrom P front items → RisesFrom (option_map key (last_item front)) (mapped key items)
    unfolding EachFrom
    each_rising front [] h = tt
    each_rising front (x ∷ items) h =
        (rises front x h.0, subst (λ (o : Option X). RisesFrom (option_map key o) (mapped key items)) (last_item-push front x) (each_rising (front ++ x ∷ []) items h.1))

  module _ (o : IsTotalOrder R) where
    all_after : (k : K) (ks : List K) → RisesFrom (Some k) ks → AllByRecursion (λ q. R k q ≡ Less) ks
    all_after k [] h = tt
    all_after k (q ∷ ks) h = (h.0, above k q ks h.0 (all_after q ks h.1))
      where
        above : (k q : K) (ks : List K) → R k q ≡ Less → AllByRecursion (λ p. R q p ≡ Less) ks → AllByRecursion (λ p. R k p ≡ Less) ks
        above k q [] e h = tt
        above k q (p ∷ ks) e h = (o.trans k q p e h.0, above k q ks e h.1)

    pub sorted_rising : (before : Option K) (ks : List K) → RisesFrom before ks → IsStrictlySortedBy R ks
    unfolding IsStrictlySortedBy
    sorted_rising before [] h = tt
    sorted_rising before (k ∷ ks) h = (all_after k ks h.1, sorted_rising (Some k) ks h.1)

-- two sorted lists, all of the first below all of the second
module _ {K : Type 0} (R : K → K → Ordering) where
  pub sorted_append : (ks qs : List K) → IsStrictlySortedBy R ks → IsStrictlySortedBy R qs → AllByRecursion (λ k. AllByRecursion (λ q. R k q ≡ Less) qs) ks → IsStrictlySortedBy R (ks ++ qs)
  unfolding IsStrictlySortedBy
  sorted_append [] qs first second below = second
  sorted_append (k ∷ ks) qs first second below = (both ks first.0, sorted_append ks qs first.1 second below.1)
    where
      both : (ks : List K) → AllByRecursion (λ q. R k q ≡ Less) ks → AllByRecursion (λ q. R k q ≡ Less) (ks ++ qs)
      both [] h = below.0
      both (p ∷ ks) h = (h.0, both ks h.1)

pub keys-mapped : {K V X : Type 0} (f : X → K × V) (items : List X) → keys_of (mapped f items) ≡ mapped (λ x. (f x).0) items
keys-mapped f [] = refl
keys-mapped f (x ∷ items) = ap (λ ks. (f x).0 ∷ ks) (keys-mapped f items)

module _ {K V X : Type 0} {R : K → K → Ordering} (o : IsTotalOrder R) where
  -- a map made of entries that rise has them as its entries
  pub entries_made : (f : X → K × V) (items : List X) → RisesFrom R None (mapped (λ x. (f x).0) items) → map.entries (map.from_entries {R = R} (mapped f items)) ≡ mapped f items
  entries_made f items h = entries-from_entries o (mapped f items) (subst (IsStrictlySortedBy R) (sym (keys-mapped f items)) (sorted_rising R o None _ h))

-- what is undone for each item is undone for the list
pub undone : {X Y : Type 0} (f : X → Y) (g : Y → X) (items : List X) → AllByRecursion (λ x. g (f x) ≡ x) items → mapped g (mapped f items) ≡ items
undone f g [] h = refl
undone f g (x ∷ items) h = λ i. h.0 i ∷ undone f g items h.1 i

pub all_from : {X : Type 0} (P : List X → X → Type 0) (Q : X → Type 0) → ((front : List X) (x : X) → P front x → Q x) → (front items : List X) → EachFrom P front items → AllByRecursion Q items
unfolding EachFrom
all_from P Q to front [] h = tt
all_from P Q to front (x ∷ items) h = (to front x h.0, all_from P Q to (front ++ x ∷ []) items h.1)

pub all_items : {X : Type 0} (P : List X → X → Type 0) (Q : X → Type 0) → ((front : List X) (x : X) → P front x → Q x) → (front items : List X) → EachFrom P front items → All Q items
unfolding EachFrom
all_items P Q to front [] h = All-nil Q
all_items P Q to front (x ∷ items) h = All-cons Q x items (to front x h.0) (all_items P Q to (front ++ x ∷ []) items h.1)

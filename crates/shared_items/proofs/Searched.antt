-- What a binary search finds in a list whose keys rise: the one item of a key, or that there is none, and the first item that isn't
-- below a key.
--     found_at, found_none      the items of the key are what was found
--     any_here, all_here, some_here      tests of the list's items of the key, by what was found
use Rattle.std.proofs.Common.{◌≡◌, ◌&&◌, ◌||◌, ◌+◌, ◌<◌, ◌≤◌, ℕ, zero, suc, Bool, true, false, Ordering, Less, Equal, Greater, List, [], ◌∷◌, length, map as mapped, get_or, ⊎_elim, add-one, refl, sym, ap, subst, ◌∙◌, arith}
use Rattle.std.specs.Prelude.{Option, Some, None, not}
use Rattle.std.specs.List.{list_any, list_all, AllByRecursion, HoldsAt}
use Rattle.std.specs.List.Sorted.{IsStrictlySortedBy, IsSortedBy, IsNonDecreasingBy, IsPartitionPoint}
use Rattle.std.specs.Cmp.{IsTotalOrder, alike_right}
use Rattle.std.specs.Ordering.{is_lt, is_eq, ordering_index, ordering_reverse}
use Rattle.std.proofs.lemmas.Bool.{cases_lt}
use Rattle.std.proofs.lemmas.List.Folds.{list_any_at}
use Rattle.std.proofs.lemmas.List.Sorted.{searchable_from_sorted}
use Rattle.shared_items.specs.Found.{Finds, passes}

turned_less : (a b : Ordering) → a ≡ ordering_reverse b → b ≡ Less → is_lt a ≡ false
turned_less a b e h = ap is_lt (e ∙ ap ordering_reverse h)

pub turned_equal : {K : Type 0} {R : K → K → Ordering} → IsTotalOrder R → (a b : K) → is_eq (R a b) ≡ is_eq (R b a)
turned_equal {R} o a b = ap is_eq (o.antisymm a b) ∙ reversed (R b a)
  where
    reversed : (r : Ordering) → is_eq (ordering_reverse r) ≡ is_eq r
    reversed Less = refl
    reversed Equal = refl
    reversed Greater = refl

or_one : (a b : Bool) → b ≡ false → (a || b) ≡ a
or_one true b e = refl
or_one false b e = e

-- what was found passes the test, or there is nothing
abbrev pub allows : {X : Type 0} → (X → Bool) → Option X → Bool
allows test None = true
allows test (Some x) = test x

-- tests of a list's items by what was found
module _ {X : Type 0} (here test : X → Bool) (items : List X) (found : Option X) (finds : Finds here items found) where
  pub any_here : (all : X → Bool) → ((x : X) → all x ≡ (here x && test x)) → list_any all items ≡ passes test found
  any_here all is = (λ i. list_any (λ x. is x i) items) ∙ finds test

  all_any : (items : List X) → list_all (λ x. not (here x) || test x) items ≡ not (list_any (λ x. here x && not (test x)) items)
  all_any [] = refl
  all_any (x ∷ items) = both (here x) (test x) _ _ (all_any items)
    where
      both : (a b rest some : Bool) → rest ≡ not some → ((not a || b) && rest) ≡ not ((a && not b) || some)
      both true true rest some e = e
      both true false rest some e = refl
      both false b rest some e = e

  pub all_here : (all : X → Bool) → ((x : X) → all x ≡ (not (here x) || test x)) → list_all all items ≡ allows test found
  all_here all is = (λ i. list_all (λ x. is x i) items) ∙ all_any items ∙ ap not (finds (λ x. not (test x))) ∙ by_found found
    where
      not_not : (b : Bool) → not (not b) ≡ b
      not_not true = refl
      not_not false = refl

      by_found : (o : Option X) → not (passes (λ x. not (test x)) o) ≡ allows test o
      by_found None = refl
      by_found (Some x) = not_not (test x)

pub some_here : {X : Type 0} (here : X → Bool) (items : List X) (found : Option X) → Finds here items found → list_any here items ≡ passes (λ _. true) found
some_here here items found finds = any_here here (λ _. true) items found finds here (λ x. and_true (here x))
  where
    and_true : (b : Bool) → b ≡ (b && true)
    and_true true = refl
    and_true false = refl

module _ {K : Type 0} {R : K → K → Ordering} (o : IsTotalOrder R) {X : Type 0} (key : X → K) where
  head_below : (x : X) (xs : List X) (k : ℕ) (d : X) → AllByRecursion (λ q. R (key x) q ≡ Less) (mapped key xs) → k < length xs → R (key x) (key (get_or xs k d)) ≡ Less
  head_below x [] k d h l = absurd (omega arith)
  head_below x (y ∷ xs) zero d h l = h.0
  head_below x (y ∷ xs) (suc k) d h l = head_below x xs k d h.1 (omega arith)

  pub below : (xs : List X) (i j : ℕ) (d : X) → IsStrictlySortedBy R (mapped key xs) → i < j → j < length xs → R (key (get_or xs i d)) (key (get_or xs j d)) ≡ Less
  unfolding IsStrictlySortedBy
  below [] i j d h b l = absurd (omega arith)
  below (x ∷ xs) i zero d h b l = absurd (omega arith)
  below (x ∷ xs) zero (suc j) d h b l = head_below x xs j d h.0 (omega arith)
  below (x ∷ xs) (suc i) (suc j) d h b l = below xs i j d h.1 (omega arith) (omega arith)

  in_order : (xs : List X) → IsStrictlySortedBy R (mapped key xs) → IsSortedBy (λ a b. is_lt (R (key a) (key b))) xs
  in_order xs h k d low l = turned_less _ _ (o.antisymm (key (get_or xs (k + 1) d)) (key (get_or xs k d))) (below xs k (k + 1) d h (omega arith) l)

  -- after a search for k that ended at i
  pub parted : (k : K) (xs : List X) (i : ℕ) → IsStrictlySortedBy R (mapped key xs)
      → (IsNonDecreasingBy (λ y. ordering_index (R (key y) k)) xs → IsPartitionPoint (λ y. R (key y) k ≡ Less) (λ y. R (key y) k ≡ Greater) xs i)
      → IsPartitionPoint (λ y. R (key y) k ≡ Less) (λ y. R (key y) k ≡ Greater) xs i
  parted k xs i h parts = parts (searchable_from_sorted o key xs k (in_order xs h))

  -- here tells whether an item is of the key
  module _ (k : K) (here : X → Bool) (same : (x : X) → here x ≡ is_eq (R (key x) k)) where
    module _ (test : X → Bool) where
      passed_over : (x : X) (xs : List X) → is_eq (R (key x) k) ≡ false → list_any (λ y. here y && test y) (x ∷ xs) ≡ list_any (λ y. here y && test y) xs
      passed_over x xs h = ap (λ b. (b && test x) || list_any (λ y. here y && test y) xs) (same x ∙ h)

      none_above : (xs : List X) → AllByRecursion (λ q. R k q ≡ Less) (mapped key xs) → list_any (λ y. here y && test y) xs ≡ false
      none_above [] h = refl
      none_above (x ∷ xs) h = passed_over x xs (ap is_eq (o.antisymm (key x) k ∙ ap ordering_reverse h.0)) ∙ none_above xs h.1

      none_in : (xs : List X) → ((j : ℕ) (d : X) → j < length xs → is_eq (R (key (get_or xs j d)) k) ≡ false) → list_any (λ y. here y && test y) xs ≡ false
      none_in [] h = refl
      none_in (x ∷ xs) h = passed_over x xs (h 0 x (omega arith)) ∙ none_in xs (λ j d l. h (suc j) d (omega arith))

    alike_below : (a : K) (ks : List K) → R a k ≡ Equal → AllByRecursion (λ q. R a q ≡ Less) ks → AllByRecursion (λ q. R k q ≡ Less) ks
    alike_below a [] e h = tt
    alike_below a (q ∷ ks) e h = (sym (o.congr a k q e) ∙ h.0, alike_below a ks e h.1)

    at_place : (test : X → Bool) (xs : List X) (i : ℕ) (d : X) → IsStrictlySortedBy R (mapped key xs) → i < length xs → R (key (get_or xs i d)) k ≡ Equal → list_any (λ y. here y && test y) xs ≡ test (get_or xs i d)
    unfolding IsStrictlySortedBy
    at_place test [] i d h l e = absurd (omega arith)
    at_place test (x ∷ xs) zero d h l e = or_one _ _ (none_above test xs (alike_below (key x) (mapped key xs) e h.0)) ∙ ap (λ b. b && test x) (same x ∙ ap is_eq e)
    at_place test (x ∷ xs) (suc i) d h l e =
        let apart : R (key x) k ≡ Less = sym (alike_right o (key (get_or xs i d)) k (key x) e) ∙ head_below x xs i d h.0 (omega arith) in
        passed_over test x xs (ap is_eq apart) ∙ at_place test xs i d h.1 (omega arith) e

    pub found_at : (xs : List X) (i : ℕ) (x : X) → IsStrictlySortedBy R (mapped key xs) → i < length xs → HoldsAt (λ y. R (key y) k ≡ Equal) xs i → x ≡ get_or xs i x → Finds here xs (Some x)
    found_at xs i x h l e is test = at_place test xs i x h l (e x) ∙ ap test (sym is)

    pub found_none : (xs : List X) (i : ℕ) → IsPartitionPoint (λ y. R (key y) k ≡ Less) (λ y. R (key y) k ≡ Greater) xs i → Finds here xs None
    found_none xs i parts test = none_in test xs (λ j d l. ⊎_elim (λ b. ap is_eq (parts.0 j d (omega arith) b)) (λ b. ap is_eq (parts.1 j d b l)) (cases_lt j i))

    pub is_there : (xs : List X) (i : ℕ) → i < length xs → HoldsAt (λ y. R (key y) k ≡ Equal) xs i → list_any here xs ≡ true
    is_there [] i l e = absurd (omega arith)
    is_there (x ∷ xs) i l e = list_any_at here (x ∷ xs) i x l (same (get_or (x ∷ xs) i x) ∙ ap is_eq (e x))

    pub is_absent : (xs : List X) (i : ℕ) → IsPartitionPoint (λ y. R (key y) k ≡ Less) (λ y. R (key y) k ≡ Greater) xs i → list_any here xs ≡ false
    is_absent xs i parts = some_here here xs None (found_none xs i parts)

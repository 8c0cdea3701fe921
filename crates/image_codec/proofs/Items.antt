-- Items of a list, each with those in front of it, and maps that are made of a list's items.
--     IsItem xs x      the item stands in the list, behind these in front
--     item_fits, item_passes, some_item, which_item      what is so of each, and tests of the list
--     two_items      two items are one, or the one stands in front of the other
--     found_item, item_found      what is found in the entries of a list is that of an item, and back where the keys differ
use Rattle.std.proofs.Common.{◌≡◌, Ordering, ◌&&◌, ◌||◌, Bool, true, false, cond, List, [], ◌∷◌, ◌++◌, inl, inr, map as each, refl, sym, ap, subst, ◌∙◌, ⊎_elim, append_assoc, append-nil}
use Rattle.std.specs.Prelude.{◌⊎◌, Option, Some, None}
use Rattle.std.specs.List.{list_any, list_all, flat_map, filter_map, cons_option}
use Rattle.std.specs.Ordering.{eq_by_cmp}
use Rattle.std.specs.Cmp.{IsTotalOrder}
use Rattle.std.specs.FinMap as map
use Rattle.views.proofs.MapLaws.{true_false, key_tied, same_key}
use Rattle.image_format.specs.Texts.{EachFrom}

pub record IsItem {X : Type 0} (xs : List X) (x : X) : Type 0 where
  pub front : List X
  pub rest : List X
  pub whole : xs ≡ front ++ x ∷ rest

and_parts : (a b : Bool) → (a && b) ≡ true → (a ≡ true) × (b ≡ true)
and_parts true b is = (refl, is)
and_parts false b is = true_false (sym is)

module _ {X : Type 0} where
  pub at_start : (x : X) (xs : List X) → IsItem (x ∷ xs) x
  at_start x xs = record { front = []; rest = xs; whole = refl }

  pub in_later : (y x : X) (xs : List X) → IsItem xs x → IsItem (y ∷ xs) x
  in_later y x xs at = record { front = y ∷ at.front; rest = at.rest; whole = ap (λ zs. y ∷ zs) at.whole }

  -- what is so of each item with those in front
  fits_from : (P : List X → X → Type 0) (ahead front : List X) (x : X) (rest : List X) → EachFrom P ahead (front ++ x ∷ rest) → P (ahead ++ front) x
  unfolding EachFrom
  fits_from P ahead [] x rest fits = subst (λ ys. P ys x) (sym (append-nil ahead)) fits.0
  fits_from P ahead (y ∷ front) x rest fits = subst (λ ys. P ys x) (append_assoc ahead (y ∷ []) front) (fits_from P (ahead ++ y ∷ []) front x rest fits.1)

  pub item_fits : (P : List X → X → Type 0) (xs : List X) (x : X) → EachFrom P [] xs → (at : IsItem xs x) → P at.front x
  item_fits P xs x fits at = fits_from P [] at.front x at.rest (subst (EachFrom P []) at.whole fits)

  passes_all : (test : X → Bool) (front : List X) (x : X) (rest : List X) → list_all test (front ++ x ∷ rest) ≡ true → test x ≡ true
  passes_all test [] x rest all = (and_parts (test x) _ all).0
  passes_all test (y ∷ front) x rest all = passes_all test front x rest (and_parts (test y) _ all).1

  pub item_passes : (test : X → Bool) (xs : List X) (x : X) → list_all test xs ≡ true → IsItem xs x → test x ≡ true
  item_passes test xs x all at = passes_all test at.front x at.rest (subst (λ ys. list_all test ys ≡ true) at.whole all)

  some_of : (test : X → Bool) (front : List X) (x : X) (rest : List X) → test x ≡ true → list_any test (front ++ x ∷ rest) ≡ true
  some_of test [] x rest passes = ap (λ b. b || list_any test rest) passes
  some_of test (y ∷ front) x rest passes = or_second (test y) _ (some_of test front x rest passes)
    where
      or_second : (a b : Bool) → b ≡ true → (a || b) ≡ true
      or_second true b is = refl
      or_second false b is = is

  pub some_item : (test : X → Bool) (xs : List X) (x : X) → IsItem xs x → test x ≡ true → list_any test xs ≡ true
  some_item test xs x at passes = subst (λ ys. list_any test ys ≡ true) (sym at.whole) (some_of test at.front x at.rest passes)

  pub which_item : (test : X → Bool) (xs : List X) → list_any test xs ≡ true → (x : X) × IsItem xs x × (test x ≡ true)
  which_item test [] some = true_false (sym some)
  which_item test (y ∷ xs) some = by_test (test y) refl (which_item test xs) some
    where
      by_test : (b : Bool) → test y ≡ b → (list_any test xs ≡ true → (x : X) × IsItem xs x × (test x ≡ true))
          → (b || list_any test xs) ≡ true → (x : X) × IsItem (y ∷ xs) x × (test x ≡ true)
      by_test true is later some = (y, at_start y xs, is)
      by_test false is later some = let (x, at, passes) = later some in (x, in_later y x xs at, passes)

  -- two items of a list
  abbrev pub AreApart : (front ahead : List X) → X → X → Type 0
  AreApart front ahead x y = (x ≡ y) ⊎ (IsItem ahead x ⊎ IsItem front y)

  two_of : (front ahead : List X) (x y : X) (rest last : List X) → front ++ x ∷ rest ≡ ahead ++ y ∷ last → AreApart front ahead x y
  two_of [] [] x y rest last is = let same : x ≡ y = cc in inl same
  two_of [] (z ∷ ahead) x y rest last is = let same : z ≡ x = cc in inr (inl (subst (λ w. IsItem (w ∷ ahead) x) (sym same) (at_start x ahead)))
  two_of (z ∷ front) [] x y rest last is = let same : z ≡ y = cc in inr (inr (subst (λ w. IsItem (w ∷ front) y) (sym same) (at_start y front)))
  two_of (z ∷ front) (w ∷ ahead) x y rest last is =
      let later : front ++ x ∷ rest ≡ ahead ++ y ∷ last = cc in
      ⊎_elim (λ same. inl same)
      (λ one. inr (⊎_elim (λ before. inl (in_later w x ahead before)) (λ before. inr (in_later z y front before)) one))
      (two_of front ahead x y rest last later)

  pub two_items : (xs : List X) (x y : X) (at : IsItem xs x) (by : IsItem xs y) → AreApart at.front by.front x y
  two_items xs x y at by = two_of at.front by.front x y at.rest by.rest (sym at.whole ∙ by.whole)

  -- what each item rules out of those in front, no two items have
  pub one_item : (P : List X → X → Type 0) (Clash : X → X → Type 0) → ((front : List X) (x y : X) → P front x → IsItem front y → Clash y x → ⊥)
      → (xs : List X) (x y : X) → EachFrom P [] xs → IsItem xs x → IsItem xs y → Clash x y → Clash y x → x ≡ y
  one_item P Clash never xs x y fits at by clash back = ⊎_elim
      (λ same. same)
      (⊎_elim
      (λ before. absurd (never by.front y x (item_fits P xs y fits by) before clash))
      (λ before. absurd (never at.front x y (item_fits P xs x fits at) before back)))
      (two_items xs x y at by)

-- entries of a list's items
module _ {K V : Type 0} {R : K → K → Ordering} (o : IsTotalOrder R) (exact : map.IsAntisymmetric R) where
  -- the first entry at a key
  pub found_entry : (es : List (K × V)) (k : K) (v : V) → map.find R k es ≡ Some v → IsItem es (k, v)
  found_entry [] k v found = cc
  found_entry (e ∷ es) k v found = by_test (eq_by_cmp R k e.0) refl (found_entry es k v) found
    where
      by_test : (b : Bool) → eq_by_cmp R k e.0 ≡ b → (map.find R k es ≡ Some v → IsItem es (k, v)) → cond b (Some e.1) (map.find R k es) ≡ Some v → IsItem (e ∷ es) (k, v)
      by_test true tied later found =
          let value : e.1 ≡ v = cc in
          subst (IsItem (e ∷ es)) (λ i. (sym (same_key o exact k e.0 tied) i, value i)) (at_start e es)
      by_test false tied later found = in_later e (k, v) es (later found)

  there_of : (front : List (K × V)) (k : K) (v : V) (rest : List (K × V)) → (w : V) × (map.find R k (front ++ (k, v) ∷ rest) ≡ Some w)
  there_of [] k v rest = (v, ap (λ b. cond b (Some v) (map.find R k rest)) (key_tied o exact k))
  there_of (e ∷ front) k v rest = by_test (eq_by_cmp R k e.0) (there_of front k v rest)
    where
      by_test : (b : Bool) → (w : V) × (map.find R k (front ++ (k, v) ∷ rest) ≡ Some w) → (w : V) × (cond b (Some e.1) (map.find R k (front ++ (k, v) ∷ rest)) ≡ Some w)
      by_test true later = (e.1, refl)
      by_test false later = later

  pub there_entry : (es : List (K × V)) (k : K) (v : V) → IsItem es (k, v) → (w : V) × (map.find R k es ≡ Some w)
  there_entry es k v at = let (w, found) = there_of at.front k v at.rest in (w, ap (map.find R k) at.whole ∙ found)

  -- where no two entries have one key
  abbrev pub OneEach : List (K × V) → Type 0
  OneEach es = (k : K) (v w : V) → IsItem es (k, v) → IsItem es (k, w) → v ≡ w

  pub entry_found : (es : List (K × V)) (k : K) (v : V) → OneEach es → IsItem es (k, v) → map.find R k es ≡ Some v
  entry_found es k v one at =
      let (w, found) = there_entry es k v at in
      found ∙ ap (λ x. Some x) (one k w v (found_entry es k w found) at)

  pub made_found : (es : List (K × V)) (k : K) (v : V) → OneEach es → IsItem es (k, v) → map.get (map.from_entries {R = R} es) k ≡ Some v
  made_found es k v one at = map.get-from_entries o es k ∙ entry_found es k v one at

  pub found_made : (es : List (K × V)) (k : K) (v : V) → map.get (map.from_entries {R = R} es) k ≡ Some v → IsItem es (k, v)
  found_made es k v found = found_entry es k v (sym (map.get-from_entries o es k) ∙ found)

-- where an item stands in a list that is joined to others
module _ {Y : Type 0} where
  pub nothing_in : (y : Y) → IsItem [] y → ⊥
  nothing_in y at = by_front at.front at.whole
    where
      by_front : (front : List Y) → [] ≡ front ++ y ∷ at.rest → ⊥
      by_front [] is = cc
      by_front (z ∷ front) is = cc

  pub first_or_later : (z y : Y) (ys : List Y) → IsItem (z ∷ ys) y → (z ≡ y) ⊎ IsItem ys y
  first_or_later z y ys at = by_front at.front at.whole
    where
      by_front : (front : List Y) → z ∷ ys ≡ front ++ y ∷ at.rest → (z ≡ y) ⊎ IsItem ys y
      by_front [] is = let same : z ≡ y = cc in inl same
      by_front (w ∷ front) is = let later : ys ≡ front ++ y ∷ at.rest = cc in inr (record { front = front; rest = at.rest; whole = later })

  pub in_first : (xs ys : List Y) (y : Y) → IsItem xs y → IsItem (xs ++ ys) y
  in_first xs ys y at = record { front = at.front; rest = at.rest ++ ys; whole = ap (λ zs. zs ++ ys) at.whole ∙ append_assoc at.front (y ∷ at.rest) ys }

  pub in_second : (xs ys : List Y) (y : Y) → IsItem ys y → IsItem (xs ++ ys) y
  in_second xs ys y at = record { front = xs ++ at.front; rest = at.rest; whole = ap (λ zs. xs ++ zs) at.whole ∙ sym (append_assoc xs at.front (y ∷ at.rest)) }

  pub first_or_second : (xs ys : List Y) (y : Y) → IsItem (xs ++ ys) y → IsItem xs y ⊎ IsItem ys y
  first_or_second [] ys y at = inr at
  first_or_second (x ∷ xs) ys y at = ⊎_elim
      (λ here. inl (subst (λ z. IsItem (z ∷ xs) y) (sym here) (at_start y xs)))
      (λ later. ⊎_elim (λ first. inl (in_later x y xs first)) (λ second. inr second) (first_or_second xs ys y later))
      (first_or_later x y (xs ++ ys) at)

-- items of the lists that are made of a list
module _ {X Y : Type 0} where
  each_of : (f : X → Y) (front : List X) (x : X) (rest : List X) → IsItem (each f (front ++ x ∷ rest)) (f x)
  each_of f [] x rest = at_start (f x) (each f rest)
  each_of f (y ∷ front) x rest = in_later (f y) (f x) (each f (front ++ x ∷ rest)) (each_of f front x rest)

  pub each_item : (f : X → Y) (xs : List X) (x : X) → IsItem xs x → IsItem (each f xs) (f x)
  each_item f xs x at = subst (λ ys. IsItem (each f ys) (f x)) (sym at.whole) (each_of f at.front x at.rest)

  pub item_of_each : (f : X → Y) (xs : List X) (y : Y) → IsItem (each f xs) y → (x : X) × IsItem xs x × (f x ≡ y)
  item_of_each f [] y at = absurd (nothing_in y at)
  item_of_each f (x ∷ xs) y at = ⊎_elim
      (λ here. (x, at_start x xs, here))
      (λ later. let (z, there, is) = item_of_each f xs y later in (z, in_later x z xs there, is))
      (first_or_later (f x) y (each f xs) at)

  filtered_of : (f : X → Option Y) (front : List X) (x : X) (rest : List X) (y : Y) → f x ≡ Some y → IsItem (filter_map f (front ++ x ∷ rest)) y
  filtered_of f [] x rest y is = subst (λ found. IsItem (cons_option found (filter_map f rest)) y) (sym is) (at_start y (filter_map f rest))
  filtered_of f (z ∷ front) x rest y is = behind (f z) (filtered_of f front x rest y is)
    where
      behind : (found : Option Y) → IsItem (filter_map f (front ++ x ∷ rest)) y → IsItem (cons_option found (filter_map f (front ++ x ∷ rest))) y
      behind None at = at
      behind (Some w) at = in_later w y (filter_map f (front ++ x ∷ rest)) at

  pub filtered_item : (f : X → Option Y) (xs : List X) (x : X) (y : Y) → IsItem xs x → f x ≡ Some y → IsItem (filter_map f xs) y
  filtered_item f xs x y at is = subst (λ ys. IsItem (filter_map f ys) y) (sym at.whole) (filtered_of f at.front x at.rest y is)

  pub item_of_filtered : (f : X → Option Y) (xs : List X) (y : Y) → IsItem (filter_map f xs) y → (x : X) × IsItem xs x × (f x ≡ Some y)
  item_of_filtered f [] y at = absurd (nothing_in y at)
  item_of_filtered f (x ∷ xs) y at = by_found (f x) refl (item_of_filtered f xs y) at
    where
      by_found : (found : Option Y) → f x ≡ found → (IsItem (filter_map f xs) y → (z : X) × IsItem xs z × (f z ≡ Some y)) → IsItem (cons_option found (filter_map f xs)) y → (z : X) × IsItem (x ∷ xs) z × (f z ≡ Some y)
      by_found None is more at = let (z, there, same) = more at in (z, in_later x z xs there, same)
      by_found (Some w) is more at = ⊎_elim
          (λ here. (x, at_start x xs, is ∙ ap (λ v. Some v) here))
          (λ later. let (z, there, same) = more later in (z, in_later x z xs there, same))
          (first_or_later w y (filter_map f xs) at)

  flat_of : (f : X → List Y) (front : List X) (x : X) (rest : List X) (y : Y) → IsItem (f x) y → IsItem (flat_map f (front ++ x ∷ rest)) y
  flat_of f [] x rest y at = in_first (f x) (flat_map f rest) y at
  flat_of f (z ∷ front) x rest y at = in_second (f z) (flat_map f (front ++ x ∷ rest)) y (flat_of f front x rest y at)

  pub flat_item : (f : X → List Y) (xs : List X) (x : X) (y : Y) → IsItem xs x → IsItem (f x) y → IsItem (flat_map f xs) y
  flat_item f xs x y at there = subst (λ ys. IsItem (flat_map f ys) y) (sym at.whole) (flat_of f at.front x at.rest y there)

  pub item_of_flat : (f : X → List Y) (xs : List X) (y : Y) → IsItem (flat_map f xs) y → (x : X) × IsItem xs x × IsItem (f x) y
  item_of_flat f [] y at = absurd (nothing_in y at)
  item_of_flat f (x ∷ xs) y at = ⊎_elim
      (λ here. (x, at_start x xs, here))
      (λ later. let (z, there, is) = item_of_flat f xs y later in (z, in_later x z xs there, is))
      (first_or_second (f x) (flat_map f xs) y at)

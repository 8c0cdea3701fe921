-- Lists of the images of a map's entries, in the map's order.
--     IsSplit m xs e      the entry e of the map, with those in front of it
--     each_split      what is so of each split of the entries is so of each image with those in front of it
--     last_before, none_before, some_before      the last image in front, and tests of those in front
--     each_from, from_all      and what is so of each image, or of all, is so of what is found in the map
--     all_images, some_image, which_image      tests of all of them
--     len_made, len_flat      how many entries a map has that is made of so many items
use Rattle.std.proofs.Common.{◌≡◌, ◌≢◌, ℕ, ◌-◌, ◌*◌, ◌≤◌, ◌&&◌, ◌||◌, Ordering, Less, Equal, Bool, true, false, cond, T, List, [], ◌∷◌, ◌++◌, length, map as each, inl, inr, refl, sym, ap, subst, ◌∙◌, ⊎_elim, append_assoc, arith, length-append}
use Rattle.std.specs.Prelude.{◌⊎◌, Option, Some, None, slice_get}
use Rattle.std.specs.List.{AllByRecursion, list_any, list_all, flat_map}
use Rattle.std.specs.Ordering.{eq_by_cmp}
use Rattle.std.specs.Cmp.{IsTotalOrder, tied_itself}
use Rattle.std.specs.FinMap as map
use Rattle.std.specs.FinMap.{is_sorted}
use Rattle.std.specs.FinMap.Entries.{below_all}
use Rattle.std.proofs.lemmas.List.{map_push}
use Rattle.views.proofs.Passes.{first, second, less}
use Rattle.views.proofs.MapLaws.{true_false, key_tied, same_key, same_or_other, other_key}
use Rattle.views.proofs.MapValues.{EachEntry, each_entry, at_entry}
use Rattle.plain_tables.proofs.Entries.{len_with}
use Rattle.image_format.specs.Fields.{last_item}
use Rattle.image_format.specs.Texts.{EachFrom}
use Rattle.image_codec.proofs.MadeMaps.{found_in}
use Rattle.image_codec.proofs.TestFacts.{and_true, or_later}

module _ {K X : Type 0} (P : K → X → Type 0) where
  first_part : (xs ys : List (K × X)) → EachEntry P (xs ++ ys) → EachEntry P xs
  first_part [] ys are = tt
  first_part (x ∷ xs) ys are = (are.0, first_part xs ys are.1)

  second_part : (xs ys : List (K × X)) → EachEntry P (xs ++ ys) → EachEntry P ys
  second_part [] ys are = are
  second_part (x ∷ xs) ys are = second_part xs ys are.1

  both_each : (Q : K → X → Type 0) (xs : List (K × X)) → EachEntry P xs → EachEntry Q xs → EachEntry (λ q v. P q v × Q q v) xs
  both_each Q [] are were = tt
  both_each Q (x ∷ xs) are were = ((are.0, were.0), both_each Q xs are.1 were.1)

pub not_below : {K : Type 0} {R : K → K → Ordering} → IsTotalOrder R → (q : K) → R q q ≡ Less → ⊥
not_below {R = R} o q is = let tied : R q q ≡ Equal = tied_itself o q in cc

last_later : {X : Type 0} (x y : X) (xs : List X) → last_item (x ∷ y ∷ xs) ≡ last_item (y ∷ xs)
last_later x y xs =
    let long : length (x ∷ y ∷ xs) - 1 ≡ length (y ∷ xs) = omega arith in
    let short : length xs ≡ length (y ∷ xs) - 1 = omega arith in
    ap (slice_get (x ∷ y ∷ xs)) long ∙ ap (slice_get (y ∷ xs)) short

module _ {K X : Type 0} {R : K → K → Ordering} (o : IsTotalOrder R) (exact : map.IsAntisymmetric R) where
  abbrev pub IsBefore : map.FinMap R X → K → K → X → Type 0
  IsBefore m k q v = (map.get m q ≡ Some v) × (R q k ≡ Less)

  pub record IsSplit (m : map.FinMap R X) (xs : List (K × X)) (e : K × X) : Type 0 where
    pub found : map.get m e.0 ≡ Some e.1
    pub before : EachEntry (IsBefore m e.0) xs
    pub below : (q : K) (v : X) → map.get m q ≡ Some v → R q e.0 ≡ Less → map.find R q xs ≡ Some v
    pub rest : List (K × X)
    pub whole : map.entries m ≡ xs ++ e ∷ rest

  -- in a sorted list
  below_one : (k : K) (xs : List (K × X)) (e : K × X) (ys : List (K × X)) → T (below_all R k (xs ++ e ∷ ys)) → R k e.0 ≡ Less
  below_one k [] e ys h = less _ (first _ _ h)
  below_one k (x ∷ xs) e ys h = below_one k xs e ys (second _ _ h)

  before_one : (xs : List (K × X)) (e : K × X) (ys : List (K × X)) → T (is_sorted R (xs ++ e ∷ ys)) → EachEntry (λ q v. R q e.0 ≡ Less) xs
  before_one [] e ys h = tt
  before_one (x ∷ xs) e ys h = (below_one x.0 xs e ys (first _ _ h), before_one xs e ys (second _ _ h))

  sorted_rest : (xs ys : List (K × X)) → T (is_sorted R (xs ++ ys)) → T (is_sorted R ys)
  sorted_rest [] ys h = h
  sorted_rest (x ∷ xs) ys h = sorted_rest xs ys (second _ _ h)

  all_above : (q k : K) (es : List (K × X)) → R q k ≡ Less → T (below_all R k es) → EachEntry (λ j v. R q j ≡ Less) es
  all_above q k [] is h = tt
  all_above q k (e ∷ es) is h = (o.trans q k e.0 is (less _ (first _ _ h)), all_above q k es is (second _ _ h))

  found_before : (xs : List (K × X)) (e : K × X) (ys : List (K × X)) (q : K) (v : X) → T (is_sorted R (e ∷ ys)) → R q e.0 ≡ Less → map.find R q (xs ++ e ∷ ys) ≡ Some v → map.find R q xs ≡ Some v
  found_before [] e ys q v sorted is found =
      absurd (not_below o q (found_in o exact (λ j w. R q j ≡ Less) (e ∷ ys) q v (is, all_above q e.0 ys is (first _ _ sorted)) found))
  found_before (x ∷ xs) e ys q v sorted is found = by_test (eq_by_cmp R q x.0) (found_before xs e ys q v sorted is) found
    where
      by_test : (b : Bool) → (map.find R q (xs ++ e ∷ ys) ≡ Some v → map.find R q xs ≡ Some v) → cond b (Some x.1) (map.find R q (xs ++ e ∷ ys)) ≡ Some v → cond b (Some x.1) (map.find R q xs) ≡ Some v
      by_test true rest found = found
      by_test false rest found = rest found

  split_at : (m : map.FinMap R X) (xs : List (K × X)) (e : K × X) (ys : List (K × X)) → map.entries m ≡ xs ++ e ∷ ys → IsSplit m xs e
  split_at m xs e ys is =
      let sorted : T (is_sorted R (xs ++ e ∷ ys)) = subst (λ es. T (is_sorted R es)) is (map.entries_sorted m) in
      let there : EachEntry (λ q v. map.get m q ≡ Some v) (xs ++ e ∷ ys) = subst (EachEntry (λ q v. map.get m q ≡ Some v)) is (each_entry o exact (λ q v. map.get m q ≡ Some v) m (λ q v found. found)) in
      record {
        found = (second_part (λ q v. map.get m q ≡ Some v) xs (e ∷ ys) there).0;
        before = both_each (λ q v. map.get m q ≡ Some v) (λ q v. R q e.0 ≡ Less) xs (first_part (λ q v. map.get m q ≡ Some v) xs (e ∷ ys) there) (before_one xs e ys sorted);
        below = λ q v found less_than. found_before xs e ys q v (sorted_rest xs (e ∷ ys) sorted) less_than (ap (map.find R q) (sym is) ∙ sym (map.get-entries m q) ∙ found);
        rest = ys;
        whole = is;
      }

  module _ {I : Type 0} (image : K × X → I) where
    split_from : (m : map.FinMap R X) (P : List I → I → Type 0) → ((xs : List (K × X)) (e : K × X) → IsSplit m xs e → P (each image xs) (image e))
        → (xs ys : List (K × X)) → map.entries m ≡ xs ++ ys → EachFrom P (each image xs) (each image ys)
    unfolding EachFrom
    split_from m P told xs [] is = tt
    split_from m P told xs (e ∷ ys) is = (
      told xs e (split_at m xs e ys is),
      subst (λ front. EachFrom P front (each image ys)) (map_push image xs e) (split_from m P told (xs ++ e ∷ []) ys (is ∙ sym (append_assoc xs (e ∷ []) ys))),
    )

    pub each_split : (m : map.FinMap R X) (P : List I → I → Type 0) → ((xs : List (K × X)) (e : K × X) → IsSplit m xs e → P (each image xs) (image e)) → EachFrom P [] (each image (map.entries m))
    each_split m P told = split_from m P told [] (map.entries m) refl

    from_split : (m : map.FinMap R X) (P : List I → I → Type 0) (xs ys : List (K × X)) → map.entries m ≡ xs ++ ys → EachFrom P (each image xs) (each image ys) → (q : K) (v : X) → map.find R q ys ≡ Some v
        → (front : List (K × X)) × IsSplit m front (q, v) × P (each image front) (image (q, v))
    unfolding EachFrom
    from_split m P xs [] is h q v found = cc
    from_split m P xs (e ∷ ys) is h q v found = ⊎_elim
        (λ (here : q ≡ e.0).
        let there : map.find R q (e ∷ ys) ≡ Some e.1 = ap (λ b. cond b (Some e.1) (map.find R q ys)) (ap (λ k. eq_by_cmp R k e.0) here ∙ key_tied o exact e.0) in
        let value : e.1 ≡ v = cc in
        let same : e ≡ (q, v) = λ i. (sym here i, value i) in
        (xs, subst (IsSplit m xs) same (split_at m xs e ys is), subst (λ d. P (each image xs) (image d)) same h.0))
        (λ (other : q ≢ e.0).
        from_split m P (xs ++ e ∷ []) ys (is ∙ sym (append_assoc xs (e ∷ []) ys)) (subst (λ front. EachFrom P front (each image ys)) (sym (map_push image xs e)) h.1) q v
        (sym (ap (λ b. cond b (Some e.1) (map.find R q ys)) (other_key o exact q e.0 other)) ∙ found))
        (same_or_other o exact q e.0)

    pub each_from : (m : map.FinMap R X) (P : List I → I → Type 0) → EachFrom P [] (each image (map.entries m)) → (q : K) (v : X) → map.get m q ≡ Some v
        → (front : List (K × X)) × IsSplit m front (q, v) × P (each image front) (image (q, v))
    each_from m P h q v found = from_split m P [] (map.entries m) refl h q v (sym (map.get-entries m q) ∙ found)

    passed : (test : I → Bool) (es : List (K × X)) → list_all test (each image es) ≡ true → EachEntry (λ q v. test (image (q, v)) ≡ true) es
    passed test [] all = tt
    passed test (e ∷ es) all = let (here, later) = and_true (test (image e)) (list_all test (each image es)) all in (here, passed test es later)

    pub from_all : (test : I → Bool) (m : map.FinMap R X) → list_all test (each image (map.entries m)) ≡ true → (q : K) (v : X) → map.get m q ≡ Some v → test (image (q, v)) ≡ true
    from_all test m all q v found = at_entry o exact (λ q v. test (image (q, v)) ≡ true) m q v (passed test (map.entries m) all) found

    -- those in front
    abbrev pub IsLast : (K → X → Type 0) → Option I → Type 0
    IsLast Q found = (found ≡ None) ⊎ ((q : K) × (v : X) × (found ≡ Some (image (q, v))) × Q q v)

    pub last_before : (Q : K → X → Type 0) (xs : List (K × X)) → EachEntry Q xs → IsLast Q (last_item (each image xs))
    last_before Q [] are = inl refl
    last_before Q (x ∷ []) are = inr (x.0, x.1, refl, are.0)
    last_before Q (x ∷ y ∷ xs) are = subst (IsLast Q) (sym (last_later (image x) (image y) (each image xs))) (last_before Q (y ∷ xs) are.1)

    pub none_before : (test : I → Bool) (Q : K → X → Type 0) (xs : List (K × X)) → EachEntry Q xs → ((q : K) (v : X) → Q q v → test (image (q, v)) ≡ false) → list_any test (each image xs) ≡ false
    none_before test Q [] are none = refl
    none_before test Q (x ∷ xs) are none = λ i. none x.0 x.1 are.0 i || none_before test Q xs are.1 none i

    pub some_before : (test : I → Bool) (xs : List (K × X)) (q : K) (v : X) → map.find R q xs ≡ Some v → test (image (q, v)) ≡ true → list_any test (each image xs) ≡ true
    some_before test [] q v found passes = cc
    some_before test (x ∷ xs) q v found passes = by_test (eq_by_cmp R q x.0) refl (some_before test xs q v) found
      where
        by_test : (b : Bool) → eq_by_cmp R q x.0 ≡ b → (map.find R q xs ≡ Some v → test (image (q, v)) ≡ true → list_any test (each image xs) ≡ true)
            → cond b (Some x.1) (map.find R q xs) ≡ Some v → (test (image x) || list_any test (each image xs)) ≡ true
        by_test true tied rest found =
            let value : x.1 ≡ v = cc in
            let here : test (image x) ≡ true = ap (λ (e : K × X). test (image e)) (λ i. (sym (same_key o exact q x.0 tied) i, value i)) ∙ passes in
            ap (λ b. b || list_any test (each image xs)) here
        by_test false tied rest found = or_later (test (image x)) _ (rest found passes)

    -- all of them
    all_of_list : (test : I → Bool) (P : K → X → Type 0) (es : List (K × X)) → EachEntry P es → ((q : K) (v : X) → P q v → test (image (q, v)) ≡ true) → list_all test (each image es) ≡ true
    all_of_list test P [] are all = refl
    all_of_list test P (e ∷ es) are all = λ i. all e.0 e.1 are.0 i && all_of_list test P es are.1 all i

    pub all_images : (test : I → Bool) (m : map.FinMap R X) → ((q : K) (v : X) → map.get m q ≡ Some v → test (image (q, v)) ≡ true) → list_all test (each image (map.entries m)) ≡ true
    all_images test m all = all_of_list test (λ q v. map.get m q ≡ Some v) (map.entries m) (each_entry o exact (λ q v. map.get m q ≡ Some v) m (λ q v found. found)) all

    pub some_image : (test : I → Bool) (m : map.FinMap R X) (q : K) (v : X) → map.get m q ≡ Some v → test (image (q, v)) ≡ true → list_any test (each image (map.entries m)) ≡ true
    some_image test m q v found passes = some_before test (map.entries m) q v (sym (map.get-entries m q) ∙ found) passes

    pub which_of_images : (test : I → Bool) (P : K → X → Type 0) (es : List (K × X)) → EachEntry P es → list_any test (each image es) ≡ true → (q : K) × (v : X) × P q v × (test (image (q, v)) ≡ true)
    which_of_images test P [] are some = true_false (sym some)
    which_of_images test P (e ∷ es) are some = by_test (test (image e)) refl (which_of_images test P es are.1) some
      where
        by_test : (b : Bool) → test (image e) ≡ b → (list_any test (each image es) ≡ true → (q : K) × (v : X) × P q v × (test (image (q, v)) ≡ true))
            → (b || list_any test (each image es)) ≡ true → (q : K) × (v : X) × P q v × (test (image (q, v)) ≡ true)
        by_test true is rest some = (e.0, e.1, are.0, is)
        by_test false is rest some = rest some

    pub which_image : (test : I → Bool) (m : map.FinMap R X) → list_any test (each image (map.entries m)) ≡ true → (q : K) × (v : X) × (map.get m q ≡ Some v) × (test (image (q, v)) ≡ true)
    which_image test m some = which_of_images test (λ q v. map.get m q ≡ Some v) (map.entries m) (each_entry o exact (λ q v. map.get m q ≡ Some v) m (λ q v found. found)) some

  -- how many entries a map has that is made of a list
  pub len_made : (es : List (K × X)) → map.len (map.from_entries {R = R} es) ≤ length es
  len_made [] = let none = map.len-empty R X in omega arith
  len_made (e ∷ es) = let more = len_with o (map.from_entries {R = R} es) e.0 e.1 in let fewer = len_made es in omega arith

pub len_flat : {A B : Type 0} (f : A → List B) (n : ℕ) (xs : List A) → AllByRecursion (λ x. length (f x) ≤ n) xs → length (flat_map f xs) ≤ n * length xs
len_flat f n [] few = omega arith
len_flat f n (x ∷ xs) few = let here = few.0 in let rest = len_flat f n xs few.1 in let joined = length-append (f x) (flat_map f xs) in grind arith

-- A map is what is made of a list of entries, where each of them is in the map and each entry of the map is found in the list.
--     found_in, each_made      what is true of each entry of a list is true of what is found, and of the map made of it
--     made_map      the map that is made of such a list
--     flat_map_back      the same, where the list has so many items for each entry of another map
--     flat_back, filtered_back, each_back      of lists made in the three ways in which the kernel part's are
--     which_value      some value of a map passes a test where `list_any` says so
use Rattle.std.proofs.Common.{◌≡◌, ◌≢◌, ◌||◌, Ordering, Bool, true, false, cond, List, [], ◌∷◌, ◌++◌, map as each, refl, sym, ap, subst, ◌∙◌, ⊎_elim}
use Rattle.std.specs.Prelude.{Option, Some, None, is_some}
use Rattle.std.specs.List.{list_any, filter_map, flat_map, cons_option}
use Rattle.std.specs.Ordering.{eq_by_cmp}
use Rattle.std.specs.Cmp.{IsTotalOrder}
use Rattle.std.specs.FinMap as map
use Rattle.views.proofs.MapLaws.{same_or_other, key_tied, other_key, true_false}
use Rattle.views.proofs.MapValues.{EachEntry, each_entry}
use Rattle.plain_process.specs.Valid.{Each}

pub joined_option : {X : Type 0} (found : Option X) (xs : List X) → cons_option found xs ≡ cons_option found [] ++ xs
joined_option None xs = refl
joined_option (Some x) xs = refl

module _ {K X : Type 0} {R : K → K → Ordering} (o : IsTotalOrder R) (exact : map.IsAntisymmetric R) where
  -- a map of the entries of a list has what they have
  pub found_in : (P : K → X → Type 0) (es : List (K × X)) (q : K) (v : X) → EachEntry P es → map.find R q es ≡ Some v → P q v
  found_in P [] q v are found = cc
  found_in P (e ∷ es) q v are found = ⊎_elim
      (λ (here : q ≡ e.0).
      let there : map.find R q (e ∷ es) ≡ Some e.1 = ap (λ b. cond b (Some e.1) (map.find R q es)) (ap (λ k. eq_by_cmp R k e.0) here ∙ key_tied o exact e.0) in
      let value : e.1 ≡ v = cc in
      subst (P q) value (subst (λ k. P k e.1) (sym here) are.0))
      (λ (other : q ≢ e.0).
      found_in P es q v are.1 (sym (ap (λ b. cond b (Some e.1) (map.find R q es)) (other_key o exact q e.0 other)) ∙ found))
      (same_or_other o exact q e.0)

  pub each_made : (P : K → X → Type 0) (es : List (K × X)) → EachEntry P es → Each (map.from_entries {R = R} es) P
  each_made P es are q v found = found_in P es q v are (sym (map.get-from_entries o es q) ∙ found)

  -- what is found later is found, whatever stands first
  pub later : (b : Bool) (v : X) (found : Option X) → is_some found ≡ true → is_some (cond b (Some v) found) ≡ true
  later true v found is = refl
  later false v found is = is

  -- a key is found in a list that is joined to others
  abbrev pub IsThere : K → List (K × X) → Type 0
  IsThere q es = is_some (map.find R q es) ≡ true

  there_first : (q : K) (es fs : List (K × X)) → IsThere q es → IsThere q (es ++ fs)
  there_first q [] fs is = true_false (sym is)
  there_first q (e ∷ es) fs is = by_test (eq_by_cmp R q e.0) (there_first q es fs) is
    where
      by_test : (b : Bool) → (IsThere q es → IsThere q (es ++ fs)) → is_some (cond b (Some e.1) (map.find R q es)) ≡ true → is_some (cond b (Some e.1) (map.find R q (es ++ fs))) ≡ true
      by_test true rest is = refl
      by_test false rest is = rest is

  there_later : (q : K) (es fs : List (K × X)) → IsThere q fs → IsThere q (es ++ fs)
  there_later q [] fs is = is
  there_later q (e ∷ es) fs is = later (eq_by_cmp R q e.0) e.1 (map.find R q (es ++ fs)) (there_later q es fs is)

  pub there_at : (k : K) (v : X) (es : List (K × X)) → IsThere k ((k, v) ∷ es)
  there_at k v es = ap (λ b. is_some (cond b (Some v) (map.find R k es))) (key_tied o exact k)

  each_joined : (P : K → X → Type 0) (es fs : List (K × X)) → EachEntry P es → EachEntry P fs → EachEntry P (es ++ fs)
  each_joined P [] fs are were = were
  each_joined P (e ∷ es) fs are were = (are.0, each_joined P es fs are.1 were)

  -- a list whose entries are those of a map
  same_found : (found wanted : Option X) → ((v : X) → found ≡ Some v → wanted ≡ Some v) → ((v : X) → wanted ≡ Some v → is_some found ≡ true) → found ≡ wanted
  same_found (Some v) wanted has there = sym (has v refl)
  same_found None None has there = refl
  same_found None (Some v) has there = true_false (sym (there v refl))

  pub made_map : (m : map.FinMap R X) (es : List (K × X)) → EachEntry (λ q v. map.get m q ≡ Some v) es → ((q : K) (v : X) → map.get m q ≡ Some v → IsThere q es) → map.from_entries es ≡ m
  made_map m es are there = map.same_map o exact (map.from_entries es) m (λ q.
      map.get-from_entries o es q ∙ same_found (map.find R q es) (map.get m q) (λ v found. found_in (λ q v. map.get m q ≡ Some v) es q v are found) (there q))

  module _ {L Y : Type 0} {S : L → L → Ordering} (p : IsTotalOrder S) (precise : map.IsAntisymmetric S) where
    flat_there : (f : L × Y → List (K × X)) (es : List (L × Y)) (l : L) (y : Y) (q : K) → map.find S l es ≡ Some y → IsThere q (f (l, y)) → IsThere q (flat_map f es)
    flat_there f [] l y q found is = cc
    flat_there f (e ∷ es) l y q found is = ⊎_elim
        (λ (here : l ≡ e.0).
        let there : map.find S l (e ∷ es) ≡ Some e.1 = ap (λ b. cond b (Some e.1) (map.find S l es)) (ap (λ k. eq_by_cmp S k e.0) here ∙ key_tied p precise e.0) in
        let value : y ≡ e.1 = cc in
        there_first q (f e) (flat_map f es) (subst (λ (d : L × Y). IsThere q (f d)) (λ i. (here i, value i)) is))
        (λ (other : l ≢ e.0).
        there_later q (f e) (flat_map f es)
        (flat_there f es l y q (sym (ap (λ b. cond b (Some e.1) (map.find S l es)) (other_key p precise l e.0 other)) ∙ found) is))
        (same_or_other p precise l e.0)

    pub flat_each : (P : K → X → Type 0) (f : L × Y → List (K × X)) (es : List (L × Y)) → EachEntry (λ l y. EachEntry P (f (l, y))) es → EachEntry P (flat_map f es)
    flat_each P f [] are = tt
    flat_each P f (e ∷ es) are = each_joined P (f e) (flat_map f es) are.0 (flat_each P f es are.1)

    -- where a key of the map is found: in the items of this entry of the other map
    abbrev pub IsFrom : map.FinMap S Y → (L × Y → List (K × X)) → K → Type 0
    IsFrom n f q = (l : L) × (y : Y) × (map.get n l ≡ Some y) × IsThere q (f (l, y))

    pub flat_map_back : (m : map.FinMap R X) (n : map.FinMap S Y) (f : L × Y → List (K × X)) → ((l : L) (y : Y) → map.get n l ≡ Some y → EachEntry (λ q v. map.get m q ≡ Some v) (f (l, y)))
        → ((q : K) (v : X) → map.get m q ≡ Some v → IsFrom n f q) → map.from_entries (flat_map f (map.entries n)) ≡ m
    flat_map_back m n f are from =
        made_map m (flat_map f (map.entries n))
        (flat_each (λ q v. map.get m q ≡ Some v) f (map.entries n) (each_entry p precise (λ l y. EachEntry (λ q v. map.get m q ≡ Some v) (f (l, y))) n are))
        (λ q v found. let (l, y, there, is) = from q v found in flat_there f (map.entries n) l y q (sym (map.get-entries n l) ∙ there) is)

    -- the same of a list of images of the entries
    module _ {I : Type 0} (image : L × Y → I) (m : map.FinMap R X) (n : map.FinMap S Y) where
      flat_of_images : (f : I → List (K × X)) (es : List (L × Y)) → flat_map f (each image es) ≡ flat_map (λ e. f (image e)) es
      flat_of_images f [] = refl
      flat_of_images f (e ∷ es) = ap (λ fs. f (image e) ++ fs) (flat_of_images f es)

      filtered_of_images : (f : I → Option (K × X)) (es : List (L × Y)) → filter_map f (each image es) ≡ flat_map (λ e. cons_option (f (image e)) []) es
      filtered_of_images f [] = refl
      filtered_of_images f (e ∷ es) = joined_option (f (image e)) (filter_map f (each image es)) ∙ ap (λ fs. cons_option (f (image e)) [] ++ fs) (filtered_of_images f es)

      each_of_images : (f : I → K × X) (es : List (L × Y)) → each f (each image es) ≡ flat_map (λ e. f (image e) ∷ []) es
      each_of_images f [] = refl
      each_of_images f (e ∷ es) = ap (λ fs. f (image e) ∷ fs) (each_of_images f es)

      pub flat_back : (f : I → List (K × X)) → ((l : L) (y : Y) → map.get n l ≡ Some y → EachEntry (λ q v. map.get m q ≡ Some v) (f (image (l, y))))
          → ((q : K) (v : X) → map.get m q ≡ Some v → IsFrom n (λ e. f (image e)) q) → map.from_entries (flat_map f (each image (map.entries n))) ≡ m
      flat_back f are from = ap map.from_entries (flat_of_images f (map.entries n)) ∙ flat_map_back m n (λ e. f (image e)) are from

      pub filtered_back : (f : I → Option (K × X)) → ((l : L) (y : Y) → map.get n l ≡ Some y → EachEntry (λ q v. map.get m q ≡ Some v) (cons_option (f (image (l, y))) []))
          → ((q : K) (v : X) → map.get m q ≡ Some v → IsFrom n (λ e. cons_option (f (image e)) []) q) → map.from_entries (filter_map f (each image (map.entries n))) ≡ m
      filtered_back f are from = ap map.from_entries (filtered_of_images f (map.entries n)) ∙ flat_map_back m n (λ e. cons_option (f (image e)) []) are from

      pub each_back : (f : I → K × X) → ((l : L) (y : Y) → map.get n l ≡ Some y → map.get m (f (image (l, y))).0 ≡ Some (f (image (l, y))).1)
          → ((q : K) (v : X) → map.get m q ≡ Some v → (l : L) × (y : Y) × (map.get n l ≡ Some y) × ((f (image (l, y))).0 ≡ q)) → map.from_entries (each f (each image (map.entries n))) ≡ m
      each_back f are from =
          ap map.from_entries (each_of_images f (map.entries n))
          ∙ flat_map_back m n (λ e. f (image e) ∷ []) (λ l y there. (are l y there, tt))
          (λ q v found.
          let (l, y, there, is) = from q v found in
          (l, y, there, subst (λ k. IsThere k (f (image (l, y)) ∷ [])) is (there_at (f (image (l, y))).0 (f (image (l, y))).1 [])))

  -- some value passes the test
  which_of_list : (P : K → X → Type 0) (test : X → Bool) (es : List (K × X)) → EachEntry P es → list_any test (each (λ e. e.1) es) ≡ true → (q : K) × (v : X) × P q v × (test v ≡ true)
  which_of_list P test [] are some = true_false (sym some)
  which_of_list P test (e ∷ es) are some = by_test (test e.1) refl (which_of_list P test es are.1) some
    where
      by_test : (b : Bool) → test e.1 ≡ b → (list_any test (each (λ (d : K × X). d.1) es) ≡ true → (q : K) × (v : X) × P q v × (test v ≡ true))
          → (b || list_any test (each (λ (d : K × X). d.1) es)) ≡ true → (q : K) × (v : X) × P q v × (test v ≡ true)
      by_test true is rest some = (e.0, e.1, are.0, is)
      by_test false is rest some = rest some

  pub which_value : (test : X → Bool) (m : map.FinMap R X) → list_any test (map.values m) ≡ true → (q : K) × (v : X) × (map.get m q ≡ Some v) × (test v ≡ true)
  which_value test m some =
      which_of_list (λ q v. map.get m q ≡ Some v) test (map.entries m) (each_entry o exact (λ q v. map.get m q ≡ Some v) m (λ q v is. is)) some

-- Look-ups in `map_values` and `retain`, and what is true of each entry and of each look-up.
--     get-map_values, entries-map_values, keys-map_values      the same keys, and f of each value
--     get-retained       an entry that passes, and none else
--     EachEntry P es     P of each key and its value, by recursion over the list
--     each_entry, at_entry      of each look-up, and so of each entry; and back
--     none_among-values, some_among-values      whether a test of the values finds one
--     find_below         a key below all others is not found
use Rattle.std.proofs.Common.{◌≡◌, Ordering, Bool, true, false, cond, T, ◌||◌, List, [], ◌∷◌, map as mapped, refl, sym, ap, subst, ◌∙◌}
use Rattle.std.specs.Prelude.{Option, Some, None, is_some, filter}
use Rattle.std.specs.Option.{option_map, unwrap_or}
use Rattle.std.specs.List.{list_any}
use Rattle.std.specs.Ordering.{is_eq, eq_by_cmp}
use Rattle.std.specs.Cmp.{IsTotalOrder}
use Rattle.std.specs.FinMap as map
use Rattle.std.specs.FinMap.{FinMap, IsAntisymmetric, is_sorted, find}
use Rattle.std.specs.FinMap.Entries.{below_all}
use Rattle.views.specs.Maps.{map_values, retain, option_filter}
use Rattle.views.proofs.MapLaws.{same_key, key_tied, true_false, get-retain}
use Rattle.views.proofs.Passes.{both, first, second, less}

abbrev with_values : {K X Y : Type 0} (f : X → Y) → List (K × X) → List (K × Y)
with_values f es = mapped (λ e. (e.0, f e.1)) es

module _ {K X Y : Type 0} (R : K → K → Ordering) (f : X → Y) where
  below_all-with_values : (k : K) (es : List (K × X)) → T (below_all R k es) → T (below_all R k (with_values f es))
  below_all-with_values k [] h = tt
  below_all-with_values k (e ∷ es) h = both _ _ (first _ _ h) (below_all-with_values k es (second _ _ h))

  is_sorted-with_values : (es : List (K × X)) → T (is_sorted R es) → T (is_sorted R (with_values f es))
  is_sorted-with_values [] h = tt
  is_sorted-with_values (e ∷ es) h = both _ _ (below_all-with_values e.0 es (first _ _ h)) (is_sorted-with_values es (second _ _ h))

  find-with_values : (q : K) (es : List (K × X)) → find R q (with_values f es) ≡ option_map f (find R q es)
  find-with_values q [] = refl
  find-with_values q (e ∷ es) =
      elim (eq_by_cmp R q e.0) as (λ b. cond b (Some (f e.1)) (find R q (with_values f es)) ≡ option_map f (cond b (Some e.1) (find R q es))) [
        | true ↦ refl
        | false ↦ find-with_values q es
      ]

keys-with_values : {K X Y : Type 0} (f : X → Y) (es : List (K × X)) → mapped (λ e. e.0) (with_values f es) ≡ mapped (λ e. e.0) es
keys-with_values f [] = refl
keys-with_values f (e ∷ es) = ap (λ ks. e.0 ∷ ks) (keys-with_values f es)

module _ {K X Y : Type 0} {R : K → K → Ordering} (f : X → Y) where
  pub entries-map_values : (m : FinMap R X) → map.entries (map_values f m) ≡ mapped (λ e. (e.0, f e.1)) (map.entries m)
  unfolding map_values
  entries-map_values m = map.entries-from_sorted R (with_values f (map.entries m)) (is_sorted-with_values R f (map.entries m) (map.entries_sorted m))

  pub get-map_values : (m : FinMap R X) (q : K) → map.get (map_values f m) q ≡ option_map f (map.get m q)
  unfolding map_values
  get-map_values m q =
      map.get-from_sorted R (with_values f (map.entries m)) q (is_sorted-with_values R f (map.entries m) (map.entries_sorted m))
      ∙ find-with_values R f q (map.entries m) ∙ ap (option_map f) (sym (map.get-entries m q))

  pub keys-map_values : (m : FinMap R X) → map.keys (map_values f m) ≡ map.keys m
  keys-map_values m = ap (λ es. mapped (λ e. e.0) es) (entries-map_values m) ∙ keys-with_values f (map.entries m)

-- f of the value inserted is inserted
pub map_values-insert : {K X Y : Type 0} {R : K → K → Ordering} → IsTotalOrder R → IsAntisymmetric R → (f : X → Y) (m : FinMap R X) (k : K) (v : X) → map_values f (map.insert m k v) ≡ map.insert (map_values f m) k (f v)
map_values-insert {X = X} {R = R} o exact f m k v = map.same_map o exact _ _ (λ q.
    get-map_values f (map.insert m k v) q ∙ ap (option_map f) (map.get-insert o m k v q) ∙ inside (eq_by_cmp R q k) (map.get m q)
    ∙ ap (cond (eq_by_cmp R q k) (Some (f v))) (sym (get-map_values f m q)) ∙ sym (map.get-insert o (map_values f m) k (f v) q))
  where
    inside : (b : Bool) (x : Option X) → option_map f (cond b (Some v) x) ≡ cond b (Some (f v)) (option_map f x)
    inside true x = refl
    inside false x = refl

pub map_values-remove : {K X Y : Type 0} {R : K → K → Ordering} → IsTotalOrder R → IsAntisymmetric R → (f : X → Y) (m : FinMap R X) (k : K) → map_values f (map.remove m k) ≡ map.remove (map_values f m) k
map_values-remove {X = X} {Y = Y} {R = R} o exact f m k = map.same_map o exact _ _ (λ q.
    get-map_values f (map.remove m k) q ∙ ap (option_map f) (map.get-remove o m k q) ∙ inside (eq_by_cmp R q k) (map.get m q)
    ∙ ap (cond (eq_by_cmp R q k) None) (sym (get-map_values f m q)) ∙ sym (map.get-remove o (map_values f m) k q))
  where
    inside : (b : Bool) (x : Option X) → option_map f (cond b None x) ≡ cond b None (option_map f x)
    inside true x = refl
    inside false x = refl

abbrev kept : {K X : Type 0} (p : K → X → Bool) → List (K × X) → List (K × X)
kept p es = filter (λ e. p e.0 e.1) es

module _ {K X : Type 0} (R : K → K → Ordering) where
  pub find_below : (q : K) (es : List (K × X)) → T (below_all R q es) → find R q es ≡ None
  find_below q [] h = refl
  find_below q (e ∷ es) h = ap (λ r. cond (is_eq r) (Some e.1) (find R q es)) (less _ (first _ _ h)) ∙ find_below q es (second _ _ h)

  module _ (p : K → X → Bool) where
    below_all-kept : (k : K) (es : List (K × X)) → T (below_all R k es) → T (below_all R k (kept p es))
    below_all-kept k [] h = tt
    below_all-kept k (e ∷ es) h =
        let rest = below_all-kept k es (second _ _ h) in
        elim (p e.0 e.1) as (λ b. T (below_all R k (cond b (e ∷ kept p es) (kept p es)))) [ true ↦ both _ _ (first _ _ h) rest | false ↦ rest ]

    is_sorted-kept : (es : List (K × X)) → T (is_sorted R es) → T (is_sorted R (kept p es))
    is_sorted-kept [] h = tt
    is_sorted-kept (e ∷ es) h =
        let rest = is_sorted-kept es (second _ _ h) in
        elim (p e.0 e.1) as (λ b. T (is_sorted R (cond b (e ∷ kept p es) (kept p es)))) [ true ↦ both _ _ (below_all-kept e.0 es (first _ _ h)) rest | false ↦ rest ]

pub entries-retain : {K X : Type 0} {R : K → K → Ordering} (p : K → X → Bool) (m : FinMap R X) → map.entries (retain p m) ≡ filter (λ e. p e.0 e.1) (map.entries m)
unfolding retain
entries-retain {R = R} p m = map.entries-from_sorted R (kept p (map.entries m)) (is_sorted-kept R p (map.entries m) (map.entries_sorted m))

module _ {K X : Type 0} {R : K → K → Ordering} (o : IsTotalOrder R) (exact : IsAntisymmetric R) where
  find-kept : (p : K → X → Bool) (q : K) (es : List (K × X)) → T (is_sorted R es) → find R q (kept p es) ≡ option_filter (p q) (find R q es)
  find-kept p q [] h = refl
  find-kept p q (e ∷ es) h =
      let rest = find-kept p q es (second _ _ h) in
      elim (eq_by_cmp R q e.0) as (λ t. eq_by_cmp R q e.0 ≡ t → find R q (cond (p e.0 e.1) (e ∷ kept p es) (kept p es)) ≡ option_filter (p q) (cond t (Some e.1) (find R q es))) [
        | true ↦ λ tied.
            let at_key : q ≡ e.0 = same_key o exact q e.0 tied in
            let later : find R q es ≡ None = find_below R q es (subst (λ k. T (below_all R k es)) (sym at_key) (first _ _ h)) in
            ap (λ k. find R q (cond (p k e.1) (e ∷ kept p es) (kept p es))) (sym at_key)
            ∙ elim (p q e.1) as (λ b. find R q (cond b (e ∷ kept p es) (kept p es)) ≡ cond b (Some e.1) None) [
              | true ↦ ap (λ b. cond b (Some e.1) (find R q (kept p es))) tied
              | false ↦ rest ∙ ap (option_filter (p q)) later
            ]
        | false ↦ λ apart. elim (p e.0 e.1) as (λ b. find R q (cond b (e ∷ kept p es) (kept p es)) ≡ find R q (kept p es)) [
          | true ↦ ap (λ b. cond b (Some e.1) (find R q (kept p es))) apart
          | false ↦ refl
        ] ∙ rest
      ] refl

  pub get-retained : (p : K → X → Bool) (m : FinMap R X) (q : K) → map.get (retain p m) q ≡ option_filter (p q) (map.get m q)
  unfolding retain
  get-retained p m q =
      map.get-from_sorted R (kept p (map.entries m)) q (is_sorted-kept R p (map.entries m) (map.entries_sorted m))
      ∙ find-kept p q (map.entries m) (map.entries_sorted m) ∙ ap (option_filter (p q)) (sym (map.get-entries m q))

  -- a test of the keys alone
  pub retain-keys : (p : K → Bool) (m : FinMap R X) → retain (λ k _. p k) m ≡ map.retain_keys m p
  retain-keys p m = map.same_map o exact _ _ (λ q. get-retained (λ k _. p k) m q ∙ alike (p q) (map.get m q) ∙ sym (get-retain o exact m p q))
    where
      alike : (b : Bool) (x : Option X) → option_filter (λ _. b) x ≡ cond b x None
      alike true None = refl
      alike true (Some v) = refl
      alike false None = refl
      alike false (Some v) = refl

abbrev pub EachEntry : {K X : Type 0} → (K → X → Type 0) → List (K × X) → Type 0
EachEntry P [] = Unit {0}
EachEntry P (e ∷ es) = P e.0 e.1 × EachEntry P es

module _ {K X : Type 0} {R : K → K → Ordering} (o : IsTotalOrder R) (exact : IsAntisymmetric R) where
  -- what is found after an entry is found with it
  found_later : (e : K × X) (es : List (K × X)) (q : K) (v : X) → T (below_all R e.0 es) → find R q es ≡ Some v → find R q (e ∷ es) ≡ Some v
  found_later e es q v below is =
      elim (eq_by_cmp R q e.0) as (λ t. eq_by_cmp R q e.0 ≡ t → cond t (Some e.1) (find R q es) ≡ Some v) [
        | true ↦ λ tied. true_false (ap is_some (sym is ∙ find_below R q es (subst (λ k. T (below_all R k es)) (sym (same_key o exact q e.0 tied)) below)))
        | false ↦ λ apart. is
      ] refl

  each_of_list : (P : K → X → Type 0) (es : List (K × X)) → T (is_sorted R es) → ((q : K) (v : X) → find R q es ≡ Some v → P q v) → EachEntry P es
  each_of_list P [] sorted told = tt
  each_of_list P (e ∷ es) sorted told = (
    told e.0 e.1 (ap (λ b. cond b (Some e.1) (find R e.0 es)) (key_tied o exact e.0)),
    each_of_list P es (second _ _ sorted) (λ q v is. told q v (found_later e es q v (first _ _ sorted) is)),
  )

  -- what is true of each look-up is true of each entry
  pub each_entry : (P : K → X → Type 0) (m : FinMap R X) → ((q : K) (v : X) → map.get m q ≡ Some v → P q v) → EachEntry P (map.entries m)
  each_entry P m told = each_of_list P (map.entries m) (map.entries_sorted m) (λ q v is. told q v (map.get-entries m q ∙ is))

  at_of_list : (P : K → X → Type 0) (es : List (K × X)) (q : K) (v : X) → EachEntry P es → find R q es ≡ Some v → P q v
  at_of_list P [] q v each is = true_false (ap is_some (sym is))
  at_of_list P (e ∷ es) q v each is =
      elim (eq_by_cmp R q e.0) as (λ t. eq_by_cmp R q e.0 ≡ t → cond t (Some e.1) (find R q es) ≡ Some v → P q v) [
        | true ↦ λ tied same. subst (λ k. P k v) (sym (same_key o exact q e.0 tied)) (subst (P e.0) (ap (λ x. unwrap_or x e.1) same) each.0)
        | false ↦ λ apart same. at_of_list P es q v each.1 same
      ] refl is

  -- what is true of each entry is true of each look-up
  pub at_entry : (P : K → X → Type 0) (m : FinMap R X) (q : K) (v : X) → EachEntry P (map.entries m) → map.get m q ≡ Some v → P q v
  at_entry P m q v each is = at_of_list P (map.entries m) q v each (sym (map.get-entries m q) ∙ is)

  none_of_list : (p : X → Bool) (es : List (K × X)) → EachEntry (λ _ v. p v ≡ false) es → list_any p (mapped (λ e. e.1) es) ≡ false
  none_of_list p [] each = refl
  none_of_list p (e ∷ es) each = λ i. each.0 i || none_of_list p es each.1 i

  pub none_among-values : (p : X → Bool) (m : FinMap R X) → ((q : K) (v : X) → map.get m q ≡ Some v → p v ≡ false) → list_any p (map.values m) ≡ false
  none_among-values p m told = none_of_list p (map.entries m) (each_entry (λ _ v. p v ≡ false) m told)

  some_of_list : (p : X → Bool) (es : List (K × X)) (q : K) (v : X) → find R q es ≡ Some v → p v ≡ true → list_any p (mapped (λ e. e.1) es) ≡ true
  some_of_list p [] q v is passes = true_false (ap is_some (sym is))
  some_of_list p (e ∷ es) q v is passes =
      elim (eq_by_cmp R q e.0) as (λ t. cond t (Some e.1) (find R q es) ≡ Some v → (p e.1 || list_any p (mapped (λ e. e.1) es)) ≡ true) [
        | true ↦ λ same. ap (λ b. b || list_any p (mapped (λ e. e.1) es)) (ap p (ap (λ x. unwrap_or x e.1) same) ∙ passes)
        | false ↦ λ same. either (p e.1) _ (some_of_list p es q v same passes)
      ] is
    where
      either : (a b : Bool) → b ≡ true → (a || b) ≡ true
      either true b h = refl
      either false b h = h

  pub some_among-values : (p : X → Bool) (m : FinMap R X) (q : K) (v : X) → map.get m q ≡ Some v → p v ≡ true → list_any p (map.values m) ≡ true
  some_among-values p m q v is passes = some_of_list p (map.entries m) q v (sym (map.get-entries m q) ∙ is) passes

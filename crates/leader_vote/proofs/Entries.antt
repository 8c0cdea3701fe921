-- Entries of a finite map, changed with a look at their keys, and tested.
--     get-map_entries        a look-up after each entry was changed
--     some_entry             an entry that passes is found
--     entry_that_passes      what is found is an entry that passes
use Rattle.std.proofs.Common.{◌≡◌, Ordering, Bool, true, false, cond, T, ◌||◌, List, [], ◌∷◌, map as mapped, refl, sym, ap, ◌∙◌}
use Rattle.std.specs.Prelude.{Some, is_some}
use Rattle.std.specs.Option.{option_map, unwrap_or}
use Rattle.std.specs.List.{list_any}
use Rattle.std.specs.Ordering.{eq_by_cmp}
use Rattle.std.specs.Cmp.{IsTotalOrder}
use Rattle.std.specs.FinMap as map
use Rattle.std.specs.FinMap.{FinMap, IsAntisymmetric, is_sorted, find}
use Rattle.std.specs.FinMap.Entries.{below_all}
use Rattle.views.proofs.MapLaws.{same_key, true_false}
use Rattle.views.proofs.MapValues.{EachEntry, each_entry}
use Rattle.views.proofs.Passes.{both, first, second}
use Rattle.leader_vote.specs.Elections.{map_entries}

abbrev changed : {K X : Type 0} (f : K → X → X) → List (K × X) → List (K × X)
changed f es = mapped (λ e. (e.0, f e.0 e.1)) es

module _ {K X : Type 0} (R : K → K → Ordering) (f : K → X → X) where
  below_all-changed : (k : K) (es : List (K × X)) → T (below_all R k es) → T (below_all R k (changed f es))
  below_all-changed k [] h = tt
  below_all-changed k (e ∷ es) h = both _ _ (first _ _ h) (below_all-changed k es (second _ _ h))

  is_sorted-changed : (es : List (K × X)) → T (is_sorted R es) → T (is_sorted R (changed f es))
  is_sorted-changed [] h = tt
  is_sorted-changed (e ∷ es) h = both _ _ (below_all-changed e.0 es (first _ _ h)) (is_sorted-changed es (second _ _ h))

module _ {K X : Type 0} {R : K → K → Ordering} (o : IsTotalOrder R) (exact : IsAntisymmetric R) where
  find-changed : (f : K → X → X) (q : K) (es : List (K × X)) → find R q (changed f es) ≡ option_map (f q) (find R q es)
  find-changed f q [] = refl
  find-changed f q (e ∷ es) =
      elim (eq_by_cmp R q e.0) as (λ b. eq_by_cmp R q e.0 ≡ b → cond b (Some (f e.0 e.1)) (find R q (changed f es)) ≡ option_map (f q) (cond b (Some e.1) (find R q es))) [
        | true ↦ λ tied. ap (λ k. Some (f k e.1)) (sym (same_key o exact q e.0 tied))
        | false ↦ λ apart. find-changed f q es
      ] refl

  pub get-map_entries : (f : K → X → X) (m : FinMap R X) (q : K) → map.get (map_entries f m) q ≡ option_map (f q) (map.get m q)
  unfolding map_entries
  get-map_entries f m q =
      map.get-from_sorted R (changed f (map.entries m)) q (is_sorted-changed R f (map.entries m) (map.entries_sorted m))
      ∙ find-changed f q (map.entries m) ∙ ap (option_map (f q)) (sym (map.get-entries m q))

  some_of_list : (p : K → X → Bool) (es : List (K × X)) (q : K) (v : X) → find R q es ≡ Some v → p q v ≡ true → list_any (λ e. p e.0 e.1) es ≡ true
  some_of_list p [] q v is passes = true_false (ap is_some (sym is))
  some_of_list p (e ∷ es) q v is passes =
      elim (eq_by_cmp R q e.0) as (λ t. eq_by_cmp R q e.0 ≡ t → cond t (Some e.1) (find R q es) ≡ Some v → (p e.0 e.1 || list_any (λ e. p e.0 e.1) es) ≡ true) [
        | true ↦ λ tied same.
            let here : p e.0 e.1 ≡ true = (λ i. p (sym (same_key o exact q e.0 tied) i) (unwrap_or (same i) e.1)) ∙ passes in
            ap (λ b. b || list_any (λ e. p e.0 e.1) es) here
        | false ↦ λ apart same. either (p e.0 e.1) _ (some_of_list p es q v same passes)
      ] refl is
    where
      either : (a b : Bool) → b ≡ true → (a || b) ≡ true
      either true b h = refl
      either false b h = h

  pub some_entry : (p : K → X → Bool) (m : FinMap R X) (q : K) (v : X) → map.get m q ≡ Some v → p q v ≡ true → list_any (λ e. p e.0 e.1) (map.entries m) ≡ true
  some_entry p m q v is passes = some_of_list p (map.entries m) q v (sym (map.get-entries m q) ∙ is) passes

  one_of_list : (p : K → X → Bool) (m : FinMap R X) (es : List (K × X)) → EachEntry (λ q v. map.get m q ≡ Some v) es → list_any (λ e. p e.0 e.1) es ≡ true
      → (q : K) × (v : X) × (map.get m q ≡ Some v) × (p q v ≡ true)
  one_of_list p m [] each found = true_false (sym found)
  one_of_list p m (e ∷ es) each found =
      elim (p e.0 e.1) as (λ b. p e.0 e.1 ≡ b → (b || list_any (λ e. p e.0 e.1) es) ≡ true → (q : K) × (v : X) × (map.get m q ≡ Some v) × (p q v ≡ true)) [
        | true ↦ λ passes here. (e.0, e.1, each.0, passes)
        | false ↦ λ fails later. one_of_list p m es each.1 later
      ] refl found

  pub entry_that_passes : (p : K → X → Bool) (m : FinMap R X) → list_any (λ e. p e.0 e.1) (map.entries m) ≡ true → (q : K) × (v : X) × (map.get m q ≡ Some v) × (p q v ≡ true)
  entry_that_passes p m found = one_of_list p m (map.entries m) (each_entry o exact (λ q v. map.get m q ≡ Some v) m (λ q v is. is)) found

-- A `BTreeMap` that keeps the entries whose keys pass a test, seen as a finite map.
use Rattle.std.proofs.Common.{◌≡◌, Ordering, Bool, true, false, cond, filter, List, [], ◌∷◌, refl, sym, ap, ◌∙◌}
use Rattle.std.specs.Prelude.{Option, Some, None}
use Rattle.std.specs.Ordering.{eq_by_cmp}
use Rattle.std.specs.Cmp.{IsTotalOrder}
use Rattle.std.specs.FinMap as map
use Rattle.std.specs.BTreeMap.{BTreeMap}
use Rattle.sys_abi.proofs.OfViews.TreeMaps.{view}
use Rattle.sys_abi.proofs.OfViews.MapLaws.{get-retain, same_key}

same_either_way : {A : Type 0} (b : Bool) (x : A) → cond b x x ≡ x
same_either_way true x = refl
same_either_way false x = refl

-- the same key passes alike: the first entry is q's or not, and passes or not
step : {A : Type 0} (tied here passes : Bool) (v : A) (found : Option A) → (tied ≡ true → here ≡ passes)
    → cond here (cond tied (Some v) (cond passes found None)) (cond passes found None) ≡ cond passes (cond tied (Some v) found) None
step true true passes v found same = ap (λ b. cond b (Some v) None) (same refl)
step true false passes v found same = rw (← same refl) refl
step false true passes v found same = refl
step false false passes v found same = refl

module _ {K X : Type 0} {R : K → K → Ordering} (o : IsTotalOrder R) (exact : map.IsAntisymmetric R) where
  find-first : (here : Bool) (q : K) (e : K × X) (es : List (K × X)) → map.find R q (cond here (e ∷ es) es) ≡ cond here (cond (eq_by_cmp R q e.0) (Some e.1) (map.find R q es)) (map.find R q es)
  find-first true q e es = refl
  find-first false q e es = refl

  find-filter : (test : K → Bool) (q : K) (es : List (K × X)) → map.find R q (filter (λ e. test e.0) es) ≡ cond (test q) (map.find R q es) None
  find-filter test q [] = sym (same_either_way (test q) None)
  find-filter test q (e ∷ es) =
      find-first (test e.0) q e (filter (λ e. test e.0) es)
      ∙ ap (λ x. cond (test e.0) (cond (eq_by_cmp R q e.0) (Some e.1) x) x) (find-filter test q es)
      ∙ step (eq_by_cmp R q e.0) (test e.0) (test q) e.1 (map.find R q es) (λ tied. ap test (sym (same_key o exact q e.0 tied)))

  pub view-retain : (m n : BTreeMap K X) (test : K → Bool) → n.entries ≡ filter (λ e. test e.0) m.entries → view R n ≡ map.retain_keys (view R m) test
  view-retain m n test is = map.same_map o exact _ _ (λ q.
      map.get-from_entries o n.entries q ∙ ap (map.find R q) is ∙ find-filter test q m.entries
      ∙ ap (λ x. cond (test q) x None) (sym (map.get-from_entries o m.entries q)) ∙ sym (get-retain o exact (view R m) test q))

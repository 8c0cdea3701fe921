-- The entries of a map with one more, and with one less.
use Rattle.std.proofs.Common.{◌≡◌, ◌≢◌, ℕ, ◌+◌, ◌-◌, ◌≤◌, Bool, true, false, cond, refl, sym, ap, subst, ◌∙◌, arith, ⊎_elim}
use Rattle.std.specs.Prelude.{Option, Some, None, is_some}
use Rattle.std.specs.List.{list_any}
use Rattle.std.specs.Ordering.{eq_by_cmp}
use Rattle.std.specs.declared.cmp.Ordering.{Ordering}
use Rattle.std.specs.Cmp.{IsTotalOrder}
use Rattle.std.specs.FinMap as map
use Rattle.plain_process.proofs.OfViews.MapLaws.{get_insert_same, get_insert_other, get_remove_same, get-retain, same_or_other, true_false}
use Rattle.plain_process.proofs.OfViews.MapValues.{none_among-values, some_among-values}
use Rattle.plain_process.specs.Valid.{Each}

most_with : (b : Bool) (n m : ℕ) → m ≡ cond b n (n + 1) → m ≤ n + 1
most_with true n m is = omega arith
most_with false n m is = omega arith

most_without : (b : Bool) (n m : ℕ) → m ≡ cond b (n - 1) n → m ≤ n
most_without true n m is = omega arith
most_without false n m is = omega arith

-- how many there are
module _ {K X : Type 0} {R : K → K → Ordering} (o : IsTotalOrder R) where
  pub len_with : (m : map.FinMap R X) (k : K) (v : X) → map.len (map.insert m k v) ≤ map.len m + 1
  len_with m k v = most_with (map.contains_key m k) (map.len m) _ (map.len-insert o m k v)

  pub len_without : (m : map.FinMap R X) (k : K) → map.len (map.remove m k) ≤ map.len m
  len_without m k = most_without (map.contains_key m k) (map.len m) _ (map.len-remove o m k)

-- an entry of a map with one more is the new one, or was there
module _ {K X : Type 0} {R : K → K → Ordering} (o : IsTotalOrder R) (exact : map.IsAntisymmetric R) where
  pub each_with : (P : K → X → Type 0) (m : map.FinMap R X) (k : K) (v : X) → P k v → ((q : K) (w : X) → q ≢ k → map.get m q ≡ Some w → P q w) → Each (map.insert m k v) P
  each_with P m k v new old q w found = ⊎_elim
      (λ here.
      let there : map.get (map.insert m k v) k ≡ Some w = subst (λ x. map.get (map.insert m k v) x ≡ Some w) here found in
      let same : v ≡ w = let put = get_insert_same o exact m k v in cc in
      subst (λ x. P x w) (sym here) (subst (P k) same new))
      (λ other. old q w other (sym (get_insert_other o exact m k v q other) ∙ found))
      (same_or_other o exact q k)

  pub there_with : (m : map.FinMap R X) (k : K) (v : X) (q : K) → is_some (map.get m q) ≡ true → is_some (map.get (map.insert m k v) q) ≡ true
  there_with m k v q there = ⊎_elim
      (λ here. ap is_some (subst (λ x. map.get (map.insert m k v) x ≡ Some v) (sym here) (get_insert_same o exact m k v)))
      (λ other. ap is_some (get_insert_other o exact m k v q other) ∙ there)
      (same_or_other o exact q k)

  pub no_entry : (k : K) (v : X) → map.get (map.empty {X = X} {R = R}) k ≡ Some v → ⊥
  no_entry k v found = let none : map.get (map.empty {X = X} {R = R}) k ≡ None = map.get-empty R k in cc

-- what is found in a smaller map was in the greater one
kept_by_test : {A : Type 0} (b : Bool) (found : Option A) (v : A) → cond b found None ≡ Some v → (b ≡ true) × (found ≡ Some v)
kept_by_test true found v is = (refl, is)
kept_by_test false found v is = cc

kept_unless : {A : Type 0} (b : Bool) (found : Option A) (v : A) → cond b None found ≡ Some v → found ≡ Some v
kept_unless true found v is = cc
kept_unless false found v is = is

module _ {K X : Type 0} {R : K → K → Ordering} (o : IsTotalOrder R) (exact : map.IsAntisymmetric R) where
  pub retained : (m : map.FinMap R X) (p : K → Bool) (q : K) (v : X) → map.get (map.retain_keys m p) q ≡ Some v → (p q ≡ true) × (map.get m q ≡ Some v)
  retained m p q v found = kept_by_test (p q) (map.get m q) v (sym (get-retain o exact m p q) ∙ found)

  pub still_there : (m : map.FinMap R X) (k q : K) (v : X) → map.get (map.remove m k) q ≡ Some v → map.get m q ≡ Some v
  still_there m k q v found = kept_unless (eq_by_cmp R q k) (map.get m q) v (sym (map.get-remove o m k q) ∙ found)

  pub not_removed : (m : map.FinMap R X) (k q : K) (v : X) → map.get (map.remove m k) q ≡ Some v → q ≢ k
  not_removed m k q v found here = let gone : map.get (map.remove m k) q ≡ None = subst (λ x. map.get (map.remove m k) x ≡ None) (sym here) (get_remove_same o exact m k) in cc

  -- what is there has a value
  pub found_at : (m : map.FinMap R X) (q : K) → is_some (map.get m q) ≡ true → (v : X) × (map.get m q ≡ Some v)
  found_at m q there = found_in (map.get m q) refl there
    where
      found_in : (found : Option X) → map.get m q ≡ found → is_some found ≡ true → (v : X) × (map.get m q ≡ Some v)
      found_in None is there = true_false (sym there)
      found_in (Some v) is there = (v, is)

  -- a test of the values passes where one that passed has one that passes at its key
  pub any_kept : (test : X → Bool) (before after : map.FinMap R X) → ((q : K) (v : X) → map.get before q ≡ Some v → test v ≡ true → (w : X) × (map.get after q ≡ Some w) × (test w ≡ true))
      → list_any test (map.values before) ≡ true → list_any test (map.values after) ≡ true
  any_kept test before after kept passes = chosen (list_any test (map.values after)) refl
    where
      refuses : (q : K) (v : X) → map.get before q ≡ Some v → list_any test (map.values after) ≡ false → (b : Bool) → test v ≡ b → b ≡ false
      refuses q v found none true passes =
          let after_it = kept q v found passes in
          true_false (sym (some_among-values o exact test after q after_it.0 after_it.1 after_it.2) ∙ none)
      refuses q v found none false passes = refl

      chosen : (b : Bool) → list_any test (map.values after) ≡ b → b ≡ true
      chosen true is = refl
      chosen false is = true_false (sym passes ∙ none_among-values o exact test before (λ q v found. refuses q v found is (test v) refl))

  pub same_any : (test : X → Bool) (before after : map.FinMap R X) → ((q : K) (v : X) → map.get before q ≡ Some v → test v ≡ true → (w : X) × (map.get after q ≡ Some w) × (test w ≡ true))
      → ((q : K) (v : X) → map.get after q ≡ Some v → test v ≡ true → (w : X) × (map.get before q ≡ Some w) × (test w ≡ true)) → list_any test (map.values after) ≡ list_any test (map.values before)
  same_any test before after there back = chosen (list_any test (map.values before)) (list_any test (map.values after)) refl refl
    where
      chosen : (b c : Bool) → list_any test (map.values before) ≡ b → list_any test (map.values after) ≡ c → c ≡ b
      chosen true true is was = refl
      chosen true false is was = sym was ∙ any_kept test before after there is
      chosen false true is was = sym (any_kept test after before back was) ∙ is
      chosen false false is was = refl

  -- a value that passes is among those of the map
  pub some_passes : (test : X → Bool) (m : map.FinMap R X) → list_any test (map.values m) ≡ true → ((q : K) (v : X) → map.get m q ≡ Some v → test v ≡ false) → ⊥
  some_passes test m some none = true_false (sym some ∙ none_among-values o exact test m none)

  -- another value at a key that is there
  pub there_same : (m : map.FinMap R X) (k : K) (v : X) (q : K) → is_some (map.get m k) ≡ true → is_some (map.get (map.insert m k v) q) ≡ is_some (map.get m q)
  there_same m k v q there = ⊎_elim
      (λ here. subst (λ x. is_some (map.get (map.insert m k v) x) ≡ is_some (map.get m x)) (sym here) (ap is_some (get_insert_same o exact m k v) ∙ sym there))
      (λ other. ap is_some (get_insert_other o exact m k v q other))
      (same_or_other o exact q k)

  pub as_many : (m : map.FinMap R X) (k : K) (v : X) → is_some (map.get m k) ≡ true → map.len (map.insert m k v) ≡ map.len m
  as_many m k v there = map.len-insert o m k v ∙ ap (λ b. cond b (map.len m) (map.len m + 1)) there

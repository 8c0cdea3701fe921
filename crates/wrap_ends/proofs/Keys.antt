-- Keys of maps.
--     fewer_len          a map is smaller without what was there
--     find_there, find_none      what a search among the keys tells
--     some_entry         a map of one entry or more has one
use Rattle.std.proofs.Common.{◌≡◌, ℕ, zero, suc, ◌-◌, ◌≤◌, ◌<◌, Bool, true, false, cond, List, [], ◌∷◌, Some, None, refl, sym, ap, ◌∙◌, arith}
use Rattle.std.specs.Prelude.{◌||◌, find, length, is_some}
use Rattle.std.specs.Cmp.{IsTotalOrder, nat_cmp_total}
use Rattle.std.specs.List.{list_any}
use Rattle.std.specs.Ordering.{eq_by_cmp, nat_cmp}
use Rattle.std.specs.declared.cmp.Ordering.{Ordering}
use Rattle.std.specs.FinMap as map
use Rattle.std.specs.FinMap.{IsAntisymmetric, nat_cmp-IsAntisymmetric}
use Rattle.std.proofs.lemmas.Option.{none-some, same_Some}
use Rattle.views.proofs.MapLaws.{true_false, key_tied, same_key}
use Rattle.views.proofs.MapValues.{each_entry, EachEntry}

less_one : (n m : ℕ) → n ≡ m - 1 → (m ≡ 0 → ⊥) → n < m
less_one n zero e some = absurd (some refl)
less_one n (suc m) e some = omega (arith, e)

module _ {K X : Type 0} {R : K → K → Ordering} (o : IsTotalOrder R) (m : map.FinMap R X) where
  pub some_len : (q : K) (x : X) → map.get m q ≡ Some x → map.len m ≡ 0 → ⊥
  some_len q x there none =
      none-some x (sym (ap (λ e. map.get e q) (map.empty_of_len m none) ∙ map.get-empty {X = X} R q) ∙ there)

  pub fewer_len : (q : K) (x : X) → map.get m q ≡ Some x → map.len (map.remove m q) < map.len m
  fewer_len q x there =
      less_one (map.len (map.remove m q)) (map.len m)
      (map.len-remove o m q ∙ ap (λ f. cond (is_some f) (map.len m - 1) (map.len m)) there)
      (some_len q x there)

module _ {K X : Type 0} {R : K → K → Ordering} (o : IsTotalOrder R) (exact : IsAntisymmetric R)
    (m : map.FinMap R X) where
  pub record HasEntry : Type 0 where
    pub key : K
    pub value : X
    pub there : map.get m key ≡ Some value

  first_entry : (es : List (K × X)) → EachEntry (λ q x. map.get m q ≡ Some x) es → 1 ≤ length es → HasEntry
  first_entry [] each some = absurd (nothing some)
    where
      nothing : 1 ≤ 0 → ⊥
      nothing h = omega (arith, h)
  first_entry (e ∷ es) each some = record { key = e.0; value = e.1; there = each.0 }

  pub some_entry : 1 ≤ map.len m → HasEntry
  some_entry some =
      first_entry (map.entries m) (each_entry o exact (λ q x. map.get m q ≡ Some x) m (λ q x there. there))
      (let e = map.len-entries m in omega (arith, e, some))

-- numbers

or_right : (a b : Bool) → b ≡ true → (a || b) ≡ true
or_right true b is = refl
or_right false b is = is

module _ (test : ℕ → Bool) where
  there_by : (ks : List ℕ) (n : ℕ) → find test ks ≡ Some n → list_any (eq_by_cmp nat_cmp n) ks ≡ true
  there_by [] n is = absurd (none-some n is)
  there_by (x ∷ ks) n is = by_test (λ found. there_by ks n found) (test x) is
    where
      here : x ≡ n → eq_by_cmp nat_cmp n x ≡ true
      here same = ap (eq_by_cmp nat_cmp n) same ∙ key_tied nat_cmp_total nat_cmp-IsAntisymmetric n

      by_test : (find test ks ≡ Some n → list_any (eq_by_cmp nat_cmp n) ks ≡ true) → (b : Bool)
          → cond b (Some x) (find test ks) ≡ Some n
          → (eq_by_cmp nat_cmp n x || list_any (eq_by_cmp nat_cmp n) ks) ≡ true
      by_test rest true found = ap (λ b. b || list_any (eq_by_cmp nat_cmp n) ks) (here (same_Some x n found))
      by_test rest false found =
          or_right (eq_by_cmp nat_cmp n x) (list_any (eq_by_cmp nat_cmp n) ks) (rest found)

  none_by : (ks : List ℕ) (q : ℕ) → find test ks ≡ None → list_any (eq_by_cmp nat_cmp q) ks ≡ true
      → test q ≡ false
  none_by [] q none there = true_false (sym there)
  none_by (x ∷ ks) q none there =
      by_test (λ rest among. none_by ks q rest among) (test x) refl none
    where
      by_same : (find test ks ≡ None → list_any (eq_by_cmp nat_cmp q) ks ≡ true → test q ≡ false)
          → (b : Bool) → eq_by_cmp nat_cmp q x ≡ b
          → (b || list_any (eq_by_cmp nat_cmp q) ks) ≡ true → test x ≡ false → find test ks ≡ None
          → test q ≡ false
      by_same later true e h other rest =
          ap test (same_key nat_cmp_total nat_cmp-IsAntisymmetric q x e) ∙ other
      by_same later false e h other rest = later rest h

      by_test : (find test ks ≡ None → list_any (eq_by_cmp nat_cmp q) ks ≡ true → test q ≡ false) → (b : Bool)
          → test x ≡ b → cond b (Some x) (find test ks) ≡ None → test q ≡ false
      by_test later true e h = absurd (none-some x (sym h))
      by_test later false e h = by_same later (eq_by_cmp nat_cmp q x) refl there e h

  module _ {X : Type 0} (m : map.FinMap nat_cmp X) where
    pub find_there : (n : ℕ) → find test (map.keys m) ≡ Some n → is_some (map.get m n) ≡ true
    find_there n is = map.contains_key-keys m n ∙ there_by (map.keys m) n is

    pub find_none : (q : ℕ) → find test (map.keys m) ≡ None → is_some (map.get m q) ≡ true → test q ≡ false
    find_none q none there = none_by (map.keys m) q none (sym (map.contains_key-keys m q) ∙ there)

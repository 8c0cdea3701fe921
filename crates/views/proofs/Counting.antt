-- How many entries a map has, told by its keys.
--     at_keys       at least as many as there are different keys at which something is
--     led_into      at most as many as another map has, where each entry leads to one of the other's and no
--                   two to one
--     in_all        those that pass a test, and those that don't
--     of_pairs      at most n for each entry of another map, where each entry leads to one of those and to a
--                   number below n, and no two to the same
--     found_among   where a test of the values finds one, a key has it
use Rattle.std.proofs.Common.{◌≡◌, ◌≢◌, ℕ, zero, suc, ◌+◌, ◌-◌, ◌*◌, ◌<◌, ◌≤◌, nat_lt, Bool, true, false}
use Rattle.std.proofs.Common.{not, ◌||◌, map as mapped, cond, List, [], ◌∷◌, length, Option, Some}
use Rattle.std.proofs.Common.{None, refl}
use Rattle.std.proofs.Common.{sym, ap, ◌∙◌, subst, arith}
use Rattle.std.specs.Prelude.{is_some, IsSome}
use Rattle.std.specs.List.{list_any}
use Rattle.std.specs.declared.cmp.Ordering.{Ordering}
use Rattle.std.specs.Cmp.{IsTotalOrder}
use Rattle.std.specs.FinMap as map
use Rattle.std.specs.FinMap.{FinMap, IsAntisymmetric}
use Rattle.std.proofs.lemmas.Option.{same_Some, none-some}
use Rattle.std.proofs.lemmas.Bool.{ltb-true, ltb-false, not-true}
use Rattle.std.proofs.lemmas.List.Filters.{length-filter_both}
use Rattle.std.proofs.Math.Nat.{suc-mul}
use Rattle.views.specs.Maps.{retain, option_filter}
use Rattle.views.proofs.MapLaws.{true_false, get_remove_same, get_remove_other}
use Rattle.views.proofs.MapValues.{EachEntry, each_entry, entries-retain, get-retained}

-- one entry less
module _ {K X : Type 0} {R : K → K → Ordering} (o : IsTotalOrder R) where
  one_is_there : (m : FinMap R X) (k : K) → IsSome (map.get m k) → map.len m ≢ 0
  one_is_there m k there none =
      let is_empty = ap (λ w. map.get w k) (map.empty_of_len m none) ∙ map.get-empty {X = X} R k in
      true_false (sym there ∙ ap is_some is_empty)

  len_less : (m : FinMap R X) (k : K) → IsSome (map.get m k) → map.len (map.remove m k) ≡ map.len m - 1
  len_less m k there = map.len-remove o m k ∙ ap (λ b. cond b (map.len m - 1) (map.len m)) there

one_more : (n m less : ℕ) → less ≡ m - 1 → m ≢ 0 → n ≤ less → suc n ≤ m
one_more n m less is some below = omega (arith, is, some, below)

one_less : (n m less : ℕ) → less ≡ m - 1 → m ≡ suc n → less ≡ n
one_less n m less is all = omega (arith, is, all)

module _ {K X : Type 0} {R : K → K → Ordering} (o : IsTotalOrder R) (exact : IsAntisymmetric R)
    (key : ℕ → K) (apart : (i j : ℕ) → key i ≡ key j → i ≡ j) where
  pub at_keys : (n : ℕ) (m : FinMap R X) → ((i : ℕ) → i < n → IsSome (map.get m (key i))) → n ≤ map.len m
  at_keys zero m there = omega arith
  at_keys (suc n) m there =
      let last = there n (omega arith) in
      one_more n (map.len m) (map.len (map.remove m (key n))) (len_less o m (key n) last)
      (one_is_there o m (key n) last)
      (at_keys n (map.remove m (key n)) (λ i below.
      ap is_some (get_remove_other o exact m (key n) (key i) (λ same. other i below (apart i n same)))
      ∙ there i (omega (arith, below))))
    where
      other : (i : ℕ) → i < n → i ≡ n → ⊥
      other i below same = omega (arith, below, same)

module _ {K L X Y : Type 0} {R : K → K → Ordering} {S : L → L → Ordering}
    (ro : IsTotalOrder R) (rs : IsAntisymmetric R) (so : IsTotalOrder S) (ss : IsAntisymmetric S)
    (Leads : K → L → Type 0) (apart : (k q : K) (l : L) → Leads k l → Leads q l → k ≡ q) where
  abbrev AreLed : FinMap R X → FinMap S Y → Type 0
  AreLed a b = (k : K) (x : X) → map.get a k ≡ Some x → (l : L) × (IsSome (map.get b l) × Leads k l)

  module _ (a : FinMap R X) (b : FinMap S Y) (led : AreLed a b)
      (k : K) (x : X) (at : map.get a k ≡ Some x) where
    still : (q : K) (y : X) → map.get (map.remove a k) q ≡ Some y → q ≢ k
    still q y there same =
        none-some y (sym (ap (map.get (map.remove a k)) same ∙ get_remove_same ro rs a k) ∙ there)

    led_less : AreLed (map.remove a k) (map.remove b (led k x at).0)
    led_less q y there =
        let other = still q y there in
        let way = led q y (sym (get_remove_other ro rs a k q other) ∙ there) in
        let gone = led k x at in
        let kept : way.0 ≢ gone.0 =
        λ same. other (apart q k gone.0 (subst (Leads q) same way.1.1) gone.1.1) in
        (way.0, (ap is_some (get_remove_other so ss b gone.0 way.0 kept) ∙ way.1.0, way.1.1))

  module _ (n : ℕ) (shorter : (a : FinMap R X) (b : FinMap S Y) → map.len a ≡ n → AreLed a b → n ≤ map.len b)
      (a : FinMap R X) (b : FinMap S Y) (all : map.len a ≡ suc n) (led : AreLed a b) where
    by_first : (es : List (K × X)) → length es ≡ suc n → EachEntry (λ q v. map.get a q ≡ Some v) es
        → suc n ≤ map.len b
    by_first [] some each = absurd (never some)
      where
        never : 0 ≡ suc n → ⊥
        never is = omega (arith, is)
    by_first (e ∷ es) some each =
        let way = led e.0 e.1 each.0 in
        let there : IsSome (map.get a e.0) = ap is_some each.0 in
        one_more n (map.len b) (map.len (map.remove b way.0)) (len_less so b way.0 way.1.0)
        (one_is_there so b way.0 way.1.0)
        (shorter (map.remove a e.0) (map.remove b way.0)
        (one_less n (map.len a) (map.len (map.remove a e.0)) (len_less ro a e.0 there) all)
        (led_less a b led e.0 e.1 each.0))

  led_from : (n : ℕ) (a : FinMap R X) (b : FinMap S Y) → map.len a ≡ n → AreLed a b → n ≤ map.len b
  led_from zero a b all led = omega arith
  led_from (suc n) a b all led =
      by_first n (led_from n) a b all led (map.entries a) (sym (map.len-entries a) ∙ all)
      (each_entry ro rs (λ q v. map.get a q ≡ Some v) a (λ q v is. is))

  pub led_into : (a : FinMap R X) (b : FinMap S Y) → AreLed a b → map.len a ≤ map.len b
  led_into a b led = led_from (map.len a) a b refl led

pub in_all : {K X : Type 0} {R : K → K → Ordering} (p : K → X → Bool) (m : FinMap R X)
    → map.len m ≡ map.len (retain p m) + map.len (retain (λ k x. not (p k x)) m)
in_all p m =
    map.len-entries m
    ∙ sym (length-filter_both (λ e. p e.0 e.1) (λ e. not (p e.0 e.1)) (λ e. refl) (map.entries m))
    ∙ (λ i. length (sym (entries-retain p m) i) + length (sym (entries-retain (λ k x. not (p k x)) m) i))
    ∙ (λ i. sym (map.len-entries (retain p m)) i + sym (map.len-entries (retain (λ k x. not (p k x)) m)) i)

module _ {K L X Y : Type 0} {R : K → K → Ordering} {S : L → L → Ordering}
    (ro : IsTotalOrder R) (rs : IsAntisymmetric R) (so : IsTotalOrder S) (ss : IsAntisymmetric S)
    (first : K → L) (second : K → ℕ) (one : (k q : K) → first k ≡ first q → second k ≡ second q → k ≡ q)
    (b : FinMap S Y) where
  abbrev AreIn : ℕ → FinMap R X → Type 0
  AreIn n a = (k : K) (x : X) → map.get a k ≡ Some x → IsSome (map.get b (first k)) × (second k < n)

  abbrev is_below : ℕ → K → X → Bool
  is_below n k x = nat_lt (second k) n

  abbrev below : ℕ → FinMap R X → FinMap R X
  below n a = retain (is_below n) a

  abbrev beyond : ℕ → FinMap R X → FinMap R X
  beyond n a = retain (λ k x. not (is_below n k x)) a

  passed : (p : K → X → Bool) (k : K) (x : X) (o : Option X) → option_filter (p k) o ≡ Some x
      → (o ≡ Some x) × (p k x ≡ true)
  passed p k x None is = absurd (none-some x is)
  passed p k x (Some y) is = by_test (p k y) refl is
    where
      by_test : (t : Bool) → p k y ≡ t → cond t (Some y) None ≡ Some x → (Some y ≡ Some x) × (p k x ≡ true)
      by_test true test is = (is, subst (λ z. p k z ≡ true) (same_Some y x is) test)
      by_test false test is = absurd (none-some x is)

  kept_by : (p : K → X → Bool) (a : FinMap R X) (k : K) (x : X) → map.get (retain p a) k ≡ Some x
      → (map.get a k ≡ Some x) × (p k x ≡ true)
  kept_by p a k x is = passed p k x (map.get a k) (sym (get-retained ro rs p a k) ∙ is)

  no_entry : (a : FinMap R X) → AreIn 0 a → (es : List (K × X)) → EachEntry (λ q v. map.get a q ≡ Some v) es
      → length es ≡ 0
  no_entry a in_none [] each = refl
  no_entry a in_none (e ∷ es) each = let low = (in_none e.0 e.1 each.0).1 in absurd (omega (arith, low))

  pub of_pairs : (n : ℕ) (a : FinMap R X) → AreIn n a → map.len a ≤ n * map.len b
  of_pairs zero a within =
      let none =
      no_entry a within (map.entries a) (each_entry ro rs (λ q v. map.get a q ≡ Some v) a (λ q v is. is)) in
      let all = map.len-entries a in
      omega (arith, none, all)
  of_pairs (suc n) a within =
      let lower = of_pairs n (below n a) (λ k x is.
      let there = kept_by (is_below n) a k x is in
      ((within k x there.0).0, ltb-true (second k) n there.1)) in
      let last =
      led_into ro rs so ss (λ k l. (first k ≡ l) × (second k ≡ n))
      (λ k q l at_k at_q. one k q (at_k.0 ∙ sym at_q.0) (at_k.1 ∙ sym at_q.1))
      (beyond n a) b (λ k x is.
      let there = kept_by (λ k x. not (is_below n k x)) a k x is in
      let found = within k x there.0 in
      (first k, (found.0, (refl, only_last (second k) found.1 (not_below (second k) there.1))))) in
      let parts = in_all (is_below n) a in
      let product = suc-mul n (map.len b) in
      omega (arith, lower, last, parts, product)
    where
      not_below : (i : ℕ) → not (nat_lt i n) ≡ true → n ≤ i
      not_below i is = ltb-false i n (not-true (nat_lt i n) is)

      only_last : (i : ℕ) → i < suc n → n ≤ i → i ≡ n
      only_last i within after = omega (arith, within, after)

-- a value that passes has a key
module _ {K X : Type 0} {R : K → K → Ordering} (o : IsTotalOrder R) (exact : IsAntisymmetric R)
    (p : X → Bool) (m : FinMap R X) where
  abbrev SomePasses : Type 0
  SomePasses = (k : K) × ((v : X) × ((map.get m k ≡ Some v) × (p v ≡ true)))

  found_in : (es : List (K × X)) → EachEntry (λ q v. map.get m q ≡ Some v) es
      → list_any p (mapped (λ e. e.1) es) ≡ true → SomePasses
  found_in [] each is = true_false (sym is)
  found_in (e ∷ es) each is = by_test (p e.1) refl (found_in es each.1) is
    where
      by_test : (b : Bool) → p e.1 ≡ b
          → (list_any p (mapped (λ e. e.1) es) ≡ true → SomePasses)
          → (b || list_any p (mapped (λ e. e.1) es)) ≡ true → SomePasses
      by_test true test rest some = (e.0, (e.1, (each.0, test)))
      by_test false test rest some = rest some

  pub found_among : list_any p (map.values m) ≡ true
      → (k : K) × ((v : X) × ((map.get m k ≡ Some v) × (p v ≡ true)))
  found_among is =
      found_in (map.entries m) (each_entry o exact (λ q v. map.get m q ≡ Some v) m (λ q v there. there)) is

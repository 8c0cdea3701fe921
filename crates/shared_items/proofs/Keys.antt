-- What a map tells of a list goes on to be true as the list and the map grow by an item
--     inserted      one more key      pushed      one more key and one more item
--     same_number, both_equal      a test of keys by their order is one of their parts
use Rattle.std.proofs.Common.{◌≡◌, ◌≢◌, ◌==◌, ◌&&◌, ◌||◌, ℕ, Bool, true, false, cond, List, [], ◌∷◌, ◌++◌, refl, sym, ap, subst, ◌∙◌, arith, Ordering, Less, Equal, Greater}
use Rattle.std.specs.Prelude.{Option, Some, is_some}
use Rattle.std.specs.List.{list_any}
use Rattle.std.specs.Cmp.{IsTotalOrder}
use Rattle.std.specs.Ordering.{nat_cmp, eq_by_cmp, is_eq, ordering_then}
use Rattle.std.proofs.lemmas.List.Folds.{list_any-append}
use Rattle.std.proofs.lemmas.Bool.Decides.{nat_tests}
use Rattle.std.proofs.lemmas.Cmp.{nat_cmp_total}
use Rattle.std.specs.FinMap as map
use Rattle.std.specs.FinMap.{get-insert, nat_cmp-IsAntisymmetric}
use Rattle.views.proofs.MapLaws.{key_tied, other_key}
use Rattle.shared_items.specs.Keys.{HasKeys}

or_false : (b : Bool) → (b || false) ≡ b
or_false true = refl
or_false false = refl

or_swap : (a b : Bool) → (a || b) ≡ (b || a)
or_swap true true = refl
or_swap true false = refl
or_swap false true = refl
or_swap false false = refl

-- keys of two parts are equal where their parts are

pub both_equal : (a b : Ordering) → is_eq (ordering_then a b) ≡ (is_eq a && is_eq b)
both_equal Less b = refl
both_equal Equal b = refl
both_equal Greater b = refl

pub same_number : (a b : ℕ) → eq_by_cmp nat_cmp a b ≡ (a == b)
same_number a b =
    elim (a == b) as (λ t. (a == b) ≡ t → eq_by_cmp nat_cmp a b ≡ t) [
      | true ↦ λ e. let same : a ≡ b = grind (arith, nat_tests) in subst (λ x. eq_by_cmp nat_cmp a x ≡ true) same (key_tied nat_cmp_total nat_cmp-IsAntisymmetric a)
      | false ↦ λ e. let apart : a ≢ b = λ same. differs a b e same in other_key nat_cmp_total nat_cmp-IsAntisymmetric a b apart
    ] refl
  where
    differs : (a b : ℕ) → (a == b) ≡ false → a ≡ b → ⊥
    differs a b e same = grind (arith, nat_tests)

pub turned : (a b : ℕ) → (a == b) ≡ (b == a)
turned a b = grind (arith, nat_tests)

-- one more key

known : {X : Type 0} (b : Bool) (v : X) (rest : Option X) → is_some (cond b (Some v) rest) ≡ (b || is_some rest)
known true v rest = refl
known false v rest = refl

pub inserted : {K X : Type 0} {R : K → K → Ordering} → IsTotalOrder R → (m new : map.FinMap R X) (k : K) (v : X) → new ≡ map.insert m k v
    → HasKeys new (λ q. is_some (map.get m q) || eq_by_cmp R q k)
inserted {R} o m new k v is q =
    ap (λ x. is_some (map.get x q)) is ∙ ap is_some (get-insert o m k v q) ∙ known (eq_by_cmp R q k) v (map.get m q) ∙ or_swap (eq_by_cmp R q k) (is_some (map.get m q))

-- one more item

pub any_pushed : {X : Type 0} (p : X → Bool) (xs : List X) (x : X) → list_any p (xs ++ x ∷ []) ≡ (list_any p xs || p x)
any_pushed p xs x = list_any-append p xs (x ∷ []) ∙ ap (λ b. list_any p xs || b) (or_false (p x))

pub pushed : {K X V : Type 0} {R : K → K → Ordering} (test : K → X → Bool) (m new : map.FinMap R V) (xs : List X) (x : X)
    → HasKeys new (λ q. is_some (map.get m q) || test q x) → HasKeys m (λ q. list_any (test q) xs) → HasKeys new (λ q. list_any (test q) (xs ++ x ∷ []))
pushed test m new xs x step before q = step q ∙ ap (λ b. b || test q x) (before q) ∙ sym (any_pushed (test q) xs x)

-- How many values of a finite map pass a test, after an insert of a new key and after a removal.
use Rattle.std.proofs.Common.{◌≡◌, ◌+◌, ◌<◌, ◌≤◌, ℕ, Ordering, Less, Equal, Greater, Bool, true, false, cond, ◌||◌, List, [], ◌∷◌, map as mapped, refl, sym, ap, ◌∙◌, arith}
use Rattle.std.specs.Prelude.{Some, None, is_some, count_by, length}
use Rattle.std.specs.List.{list_any}
use Rattle.std.specs.Ordering.{is_eq}
use Rattle.std.specs.Cmp.{IsTotalOrder}
use Rattle.std.specs.FinMap as map
use Rattle.std.specs.FinMap.{FinMap, IsAntisymmetric, find}
use Rattle.std.specs.FinMap.Entries.{put, by_order}
use Rattle.std.proofs.lemmas.List.Sums.{sum_by-cons, count_by-le-length}
use Rattle.fd_tables.proofs.OfViews.MapLaws.{true_false, insert_remove_same, get_remove_same}

pub count-cons : {X : Type 0} (p : X → Bool) (x : X) (xs : List X) → count_by p (x ∷ xs) ≡ cond (p x) 1 0 + count_by p xs
count-cons p x xs = sum_by-cons (λ x. cond (p x) 1 0) x xs

as_one : (b : Bool) → b ≡ true → cond {A = ℕ} b 1 0 ≡ 1
as_one b is = ap (λ (t : Bool). cond {A = ℕ} t 1 0) is

as_none : (b : Bool) → b ≡ false → cond {A = ℕ} b 1 0 ≡ 0
as_none b is = ap (λ (t : Bool). cond {A = ℕ} t 1 0) is

-- some value passes, or none
pub some_counted : {X : Type 0} (p : X → Bool) (xs : List X) → list_any p xs ≡ true → 0 < count_by p xs
some_counted p [] some = true_false (sym some)
some_counted p (x ∷ xs) some =
    let split = count-cons p x xs in
    elim (p x) as (λ b. p x ≡ b → (b || list_any p xs) ≡ true → 0 < count_by p (x ∷ xs)) [
      | true ↦ λ passes _. let here : cond {A = ℕ} (p x) 1 0 ≡ 1 = as_one (p x) passes in omega arith
      | false ↦ λ fails later. let rest = some_counted p xs later in omega arith
    ] refl some

pub none_counted : {X : Type 0} (p : X → Bool) (xs : List X) → list_any p xs ≡ false → count_by p xs ≡ 0
none_counted p [] none = refl
none_counted p (x ∷ xs) none =
    let split = count-cons p x xs in
    elim (p x) as (λ b. p x ≡ b → (b || list_any p xs) ≡ false → count_by p (x ∷ xs) ≡ 0) [
      | true ↦ λ passes some. true_false some
      | false ↦ λ fails later. let rest = none_counted p xs later in let here : cond {A = ℕ} (p x) 1 0 ≡ 0 = as_none (p x) fails in omega arith
    ] refl none

-- the values of the entries
abbrev values_in : {K X : Type 0} → List (K × X) → List X
values_in es = mapped (λ e. e.1) es

module _ {K X : Type 0} (R : K → K → Ordering) (p : X → Bool) where
  count-put : (k : K) (v : X) (es : List (K × X)) → find R k es ≡ None → count_by p (values_in (put R k v es)) ≡ count_by p (values_in es) + cond (p v) 1 0
  count-put k v [] none = count-cons p v [] ∙ omega arith
  count-put k v (e ∷ es) none =
      let split = count-cons p e.1 (values_in es) in
      elim (R k e.0) as (λ r. cond (is_eq r) (Some e.1) (find R k es) ≡ None → count_by p (values_in (by_order r ((k, v) ∷ e ∷ es) ((e.0, v) ∷ es) (e ∷ put R k v es))) ≡ count_by p (values_in (e ∷ es)) + cond (p v) 1 0) [
        | Less ↦ λ _. let front = count-cons p v (values_in (e ∷ es)) in omega arith
        | Equal ↦ λ found. true_false (ap is_some found)
        | Greater ↦ λ later. let front = count-cons p e.1 (values_in (put R k v es)) in let rest = count-put k v es later in omega arith
      ] none

module _ {K X : Type 0} {R : K → K → Ordering} (o : IsTotalOrder R) (exact : IsAntisymmetric R) where
  pub count-insert_new : (p : X → Bool) (m : FinMap R X) (k : K) (v : X) → map.get m k ≡ None → count_by p (map.values (map.insert m k v)) ≡ count_by p (map.values m) + cond (p v) 1 0
  count-insert_new p m k v none =
      ap (λ (es : List (K × X)). count_by p (mapped (λ e. e.1) es)) (map.entries-insert o m k v) ∙ count-put R p k v (map.entries m) (sym (map.get-entries m k) ∙ none)

  pub count-remove : (p : X → Bool) (m : FinMap R X) (k : K) (v : X) → map.get m k ≡ Some v → count_by p (map.values m) ≡ count_by p (map.values (map.remove m k)) + cond (p v) 1 0
  count-remove p m k v is =
      ap (λ w. count_by p (map.values w)) (sym (insert_remove_same o exact m k v is)) ∙ count-insert_new p (map.remove m k) k v (get_remove_same o exact m k)

  length-mapped : (es : List (K × X)) → length (mapped (λ e. e.1) es) ≡ length es
  length-mapped [] = refl
  length-mapped (e ∷ es) = omega (arith, length-mapped es)

  pub count-le-len : (p : X → Bool) (m : FinMap R X) → count_by p (map.values m) ≤ map.len m
  count-le-len p m = let low = count_by-le-length p (map.values m) in let size = length-mapped (map.entries m) in let all = map.len-entries m in omega arith

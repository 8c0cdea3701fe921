-- Tests of numbers that are keys in rising order
use Rattle.std.proofs.Common.{◌≡◌, Less, Equal, Greater, ℕ, ◌<◌, Bool, true, false, cond, ◌&&◌, List, ◌∷◌, refl, ap, arith, T}
use Rattle.std.specs.Prelude.{Some, nat_lt, ◌==◌}
use Rattle.std.specs.Ordering.{nat_cmp, is_lt}
use Rattle.std.specs.Cmp.{nat_cmp_total}
use Rattle.std.specs.FinMap as map
use Rattle.std.proofs.lemmas.Bool.Decides.{nat_tests}
use Rattle.views.proofs.MapLaws.{other_key}

pub front : (a b : Bool) → T (a && b) → T a
front true b both = tt
front false b both = absurd both

pub back : (a b : Bool) → T (a && b) → T b
back true b both = both
back false b both = absurd both

pub rising : (x y : ℕ) → T (is_lt (nat_cmp x y)) → x < y
rising x y is = elim (nat_lt x y) as (λ b. nat_lt x y ≡ b → T (is_lt (cond b Less (cond (x == y) Equal Greater))) → x < y) [
  | true ↦ λ e h. below e
  | false ↦ λ e h. absurd (elim (x == y) as (λ b. T (is_lt (cond b Equal Greater)) → ⊥) [ true ↦ λ h. h | false ↦ λ h. h ] h)
] refl is
  where
    below : nat_lt x y ≡ true → x < y
    below e = grind (arith, nat_tests, e)

pub lt_true : (k n : ℕ) → k < n → nat_lt k n ≡ true
lt_true k n less = grind (arith, nat_tests, less)

-- a key after the first one is not found there
pub past_front : {X : Type 0} (n : ℕ) (e : ℕ × X) (es : List (ℕ × X)) → e.0 < n → map.find nat_cmp n (e ∷ es) ≡ map.find nat_cmp n es
past_front n e es after = ap (λ b. cond b (Some e.1) (map.find nat_cmp n es)) (other_key nat_cmp_total map.nat_cmp-IsAntisymmetric n e.0 (λ is. omega arith))

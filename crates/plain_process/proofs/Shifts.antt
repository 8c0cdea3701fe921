-- Shifts of a word by 32 bits or more.
use Rattle.std.proofs.Common.{◌≡◌, ℕ, ◌-◌, ◌*◌, ◌/◌, ◌%◌, ◌^◌, ◌<◌, ◌≤◌, min, ◌⊎◌, inl, inr, ℤ, pos, negsuc, sym, ◌∙◌, ap, arith, lit<}
use Rattle.std.proofs.Math.Nat.{div-eq_of_lt, pow-le-pow_right, mul-mod_left, mul_assoc, sub-add_cancel, min-eq_left, min-eq_right, lt_of_lt_of_le, le_of_lt}
use Rattle.std.proofs.lemmas.Nat.{pow-add}
use Rattle.std.proofs.lemmas.Bool.{cases_lt}
use Rattle.std.specs.Int.{int_div_euclid}
use lib.Signed.{mag}

pub shl_past : (a n : ℕ) → 32 ≤ n → a * 2 ^ n % 2 ^ 32 ≡ 0
shl_past a n h =
    ap (λ k. a * 2 ^ k % 2 ^ 32) (sym (sub-add_cancel h)) ∙ ap (λ p. a * p % 2 ^ 32) (pow-add 2 (n - 32) 32)
    ∙ ap (λ p. p % 2 ^ 32) (sym (mul_assoc a (2 ^ (n - 32)) (2 ^ 32))) ∙ mul-mod_left (a * 2 ^ (n - 32)) (2 ^ 32)

shr_zero : (a k n : ℕ) → a < 2 ^ k → k ≤ n → a / 2 ^ n ≡ 0
shr_zero a k n h g = div-eq_of_lt (lt_of_lt_of_le h (pow-le-pow_right (lit< tt) g))

pub shr_past : (a n : ℕ) → a < 2 ^ 32 → 32 ≤ n → a / 2 ^ n ≡ 0
shr_past a n h g = shr_zero a 32 n h g

shr_min-by : (a n : ℕ) → a < 2 ^ 31 → (n < 31) ⊎ (31 ≤ n) → a / 2 ^ min n 31 ≡ a / 2 ^ n
shr_min-by a n h (inl small) = ap (λ k. a / 2 ^ k) (min-eq_left (le_of_lt small))
shr_min-by a n h (inr large) = ap (λ k. a / 2 ^ k) (min-eq_right large) ∙ shr_zero a 31 31 h (omega arith) ∙ sym (shr_zero a 31 n h large)

shr_min : (a n : ℕ) → a < 2 ^ 31 → a / 2 ^ min n 31 ≡ a / 2 ^ n
shr_min a n h = shr_min-by a n h (cases_lt n 31)

-- the sign alone is left of a number of 32 bits after 31 shifts
pub shr_signed_min : (z : ℤ) (n : ℕ) → mag z < 2 ^ 31 → int_div_euclid z (pos (2 ^ min n 31)) ≡ int_div_euclid z (pos (2 ^ n))
shr_signed_min (pos a) n h = ap pos (shr_min a n h)
shr_signed_min (negsuc a) n h = ap negsuc (shr_min a n h)

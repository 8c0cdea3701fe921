-- Products of words, as integers of 64 bits.
use Rattle.std.proofs.Common.{◌≡◌, ◌^◌, ◌≤◌, ℤ, pos, negsuc, ◌*ℤ◌, lit<, to_z, of_z, w32, w64, FitsSigned, ◌∙◌, ap, arith}
use Rattle.std.proofs.lemmas.Int.{ints, to_z-of_z, fits_signed_mul}
use Rattle.std.proofs.Math.Nat.{le_of_lt}
use Rattle.std.specs.Prelude.{unsigned_abs}

-- what a cast to 64 bits reads
abbrev pub widened : ℤ → ℤ
widened x = to_z w64 (of_z w64 (to_z w32 (of_z w32 x)))

widened-is : (x : ℤ) → FitsSigned w32 x → widened x ≡ x
widened-is x h = omega (arith, ints)

abs_le : (x : ℤ) → FitsSigned w32 x → unsigned_abs x ≤ 2 ^ 31
abs_le (pos n) h = le_of_lt h.sfits
abs_le (negsuc n) h = h.sfits

pub product-is : (x y : ℤ) → FitsSigned w32 x → FitsSigned w32 y → to_z w64 (of_z w64 (widened x *ℤ widened y)) ≡ x *ℤ y
product-is x y h g =
    ap (λ u. to_z w64 (of_z w64 (u *ℤ widened y))) (widened-is x h) ∙ ap (λ u. to_z w64 (of_z w64 (x *ℤ u))) (widened-is y g)
    ∙ to_z-of_z w64 (x *ℤ y) (fits_signed_mul w64 x y (2 ^ 31) (2 ^ 31) (abs_le x h) (abs_le y g) (lit< tt))

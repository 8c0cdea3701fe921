-- What an instruction makes of words is a word: each result of the table is below 2^32.
--     word_of_below      an integer whose number is below 2^32 is one      shifted_word, product_high, quotient_word, remainder_word
use Rattle.std.proofs.Common.{◌≡◌, ℕ, zero, suc, ◌-◌, ◌*◌, ◌/◌, ◌%◌, ◌^◌, ◌<◌, ◌≤◌, Bool, true, false, cond, refl, arith}
use Rattle.std.specs.Prelude.{nat_lt, ℤ, pos, negsuc, neg_ℤ, ◌*ℤ◌, int_div, int_rem, nat_abs}
use Rattle.std.specs.Int.{int_div_euclid}
use Rattle.std.proofs.Math.Nat.{div-le_self, mod-le}
use Rattle.std.proofs.lemmas.Nat.{mul-lt, shr_below}
use Rattle.std.proofs.lemmas.Bool.Decides.{nat_tests}
use Rattle.plain_tables.specs.OfPlainProcess.Valid.{IsWord}
use Rattle.plain_tables.specs.OfPlainProcess.Instructions.{signed, word, shifted_down, one_if, sign_extended}

-- an integer is below n, as every negative one is
abbrev IsBelow : ℕ → ℤ → Type 0
IsBelow n (pos a) = a < n
IsBelow n (negsuc a) = Unit {0}

word_of_below : (z : ℤ) → IsBelow (2 ^ 32) z → IsWord (word z)
word_of_below (pos a) below = below
word_of_below (negsuc a) below = omega arith

-- the number of an integer, and of a word read as one, at most 2^31
abbrev size : ℤ → ℕ
size (pos a) = a
size (negsuc a) = suc a

negative_below : (n a : ℕ) → 0 < n → IsBelow n (neg_ℤ (pos a))
negative_below n zero some = some
negative_below n (suc a) some = tt

signed_size : (a : ℕ) → IsWord a → size (signed a) ≤ 2 ^ 31
signed_size a is = elim (nat_lt a (2 ^ 31)) as (λ b. nat_lt a (2 ^ 31) ≡ b → size (cond b (pos a) (negsuc (2 ^ 32 - suc a))) ≤ 2 ^ 31) [
  | true ↦ λ e. grind (arith, nat_tests, e)
  | false ↦ λ e. let high : 2 ^ 31 ≤ a = grind (arith, nat_tests, e) in omega arith
] refl

-- shifts and quotients go no further from 0
euclid_below : (z : ℤ) (m n : ℕ) → size z < n → IsBelow n (int_div_euclid z (pos m))
euclid_below (pos a) m n small = let less : a / m ≤ a = div-le_self a m in omega arith
euclid_below (negsuc a) m n small = tt

pub shifted_word : (a n : ℕ) → IsWord a → IsWord (shifted_down (signed a) n)
shifted_word a n is = word_of_below _ (euclid_below (signed a) (2 ^ n) (2 ^ 32) (let small : size (signed a) ≤ 2 ^ 31 = signed_size a is in omega arith))

high_below : (z : ℤ) → IsBelow (2 ^ 64) z → IsBelow (2 ^ 32) (int_div_euclid z (pos (2 ^ 32)))
high_below (pos a) below = shr_below a 32 32 below
high_below (negsuc a) below = tt

product_below : (y z : ℤ) (m n : ℕ) → size y < m → size z < n → IsBelow (m * n) (y *ℤ z)
product_below (pos a) (pos b) m n first second = mul-lt a b m n first second
product_below (pos a) (negsuc b) m n first second = negative_below (m * n) (a * suc b) (let some : 0 * 0 < m * n = mul-lt 0 0 m n (omega arith) (omega arith) in omega arith)
product_below (negsuc a) (pos b) m n first second = negative_below (m * n) (suc a * b) (let some : 0 * 0 < m * n = mul-lt 0 0 m n (omega arith) (omega arith) in omega arith)
product_below (negsuc a) (negsuc b) m n first second = mul-lt (suc a) (suc b) m n first second

-- the upper half of a product of two integers below 2^32
pub product_high : (y z : ℤ) → size y < 2 ^ 32 → size z < 2 ^ 32 → IsWord (shifted_down (y *ℤ z) 32)
product_high y z first second = word_of_below _ (high_below (y *ℤ z) (product_below y z (2 ^ 32) (2 ^ 32) first second))

pub signed_small : (a : ℕ) → IsWord a → size (signed a) < 2 ^ 32
signed_small a is = let small : size (signed a) ≤ 2 ^ 31 = signed_size a is in omega arith

pub unsigned_high : (a b : ℕ) → IsWord a → IsWord b → IsWord (a * b / 2 ^ 32)
unsigned_high a b first second = shr_below (a * b) 32 32 (mul-lt a b (2 ^ 32) (2 ^ 32) first second)

quotient_below : (y z : ℤ) (n : ℕ) → size y < n → IsBelow n (int_div y z)
quotient_below (pos a) (pos b) n small = let less : a / b ≤ a = div-le_self a b in omega arith
quotient_below (pos a) (negsuc b) n small = negative_below n (a / suc b) (omega arith)
quotient_below (negsuc a) (pos b) n small = negative_below n (suc a / b) (omega arith)
quotient_below (negsuc a) (negsuc b) n small = let less : suc a / suc b ≤ suc a = div-le_self (suc a) (suc b) in omega arith

pub quotient_word : (a b : ℕ) → IsWord a → IsWord (word (int_div (signed a) (signed b)))
quotient_word a b is = word_of_below _ (quotient_below (signed a) (signed b) (2 ^ 32) (signed_small a is))

remainder_below : (y z : ℤ) (n : ℕ) → size y < n → IsBelow n (int_rem y z)
remainder_below (pos a) z n small = let less : a % nat_abs z ≤ a = mod-le a (nat_abs z) in omega arith
remainder_below (negsuc a) z n small = negative_below n (suc a % nat_abs z) (omega arith)

pub remainder_word : (a b : ℕ) → IsWord a → IsWord (word (int_rem (signed a) (signed b)))
remainder_word a b is = word_of_below _ (remainder_below (signed a) (signed b) (2 ^ 32) (signed_small a is))

pub either_word : (b : Bool) (x y : ℕ) → IsWord x → IsWord y → IsWord (cond b x y)
either_word true x y first second = first
either_word false x y first second = second

pub flag_word : (b : Bool) → IsWord (one_if b)
flag_word b = either_word b 1 0 (omega arith) (omega arith)

-- a word that was read as an integer
size_below : (z : ℤ) (n : ℕ) → size z < n → IsBelow n z
size_below (pos a) n small = small
size_below (negsuc a) n small = tt

pub signed_back : (n : ℕ) → IsWord n → IsWord (word (signed n))
signed_back n is = word_of_below _ (size_below (signed n) (2 ^ 32) (signed_small n is))

pub extended_word : (n : ℕ) (value : ℕ) → 2 ^ n ≤ 2 ^ 32 → value < 2 ^ n → IsWord (sign_extended n value)
extended_word n value fits below = either_word (nat_lt value (2 ^ (n - 1))) _ _ (omega arith) (omega arith)

pub extended_byte : (value : ℕ) → value < 2 ^ 8 → IsWord (sign_extended 8 value)
extended_byte value below = extended_word 8 value (omega arith) below

pub extended_half : (value : ℕ) → value < 2 ^ 16 → IsWord (sign_extended 16 value)
extended_half value below = extended_word 16 value (omega arith) below

-- The words of the bytes that a call reads.
--     word_in_bytes      a word is the sum of its bytes, and those past the end are 0
--     low_word           the four bytes of a word
use Rattle.std.proofs.Common.{◌≡◌, ℕ, zero, suc, ◌+◌, ◌*◌, ◌/◌, ◌%◌, List, [], ◌∷◌, take, drop, refl, ap, get_or, arith}
use Rattle.plain_process.specs.Memory.{little_endian, low_bytes}
use Rattle.plain_process.specs.Rows.Handlers.{word_in}

next_byte : (given : List ℕ) (n place : ℕ) → little_endian (take (suc n) (drop place given)) ≡ get_or given place 0 + 256 * little_endian (take n (drop (suc place) given))
next_byte [] zero zero = refl
next_byte [] zero (suc place) = refl
next_byte [] (suc n) zero = refl
next_byte [] (suc n) (suc place) = refl
next_byte (byte ∷ rest) n zero = refl
next_byte (byte ∷ rest) n (suc place) = next_byte rest n place

pub word_in_bytes : (given : List ℕ) (place : ℕ) → word_in given place ≡ get_or given place 0 + get_or given (place + 1) 0 * 256 + get_or given (place + 2) 0 * 65536 + get_or given (place + 3) 0 * 16777216
word_in_bytes given place =
    let first : suc place ≡ place + 1 = omega arith in
    let second : suc (suc place) ≡ place + 2 = omega arith in
    let third : suc (suc (suc place)) ≡ place + 3 = omega arith in
    let a = next_byte given 3 place in
    let b = next_byte given 2 (suc place) in
    let c = next_byte given 1 (suc (suc place)) in
    let d = next_byte given 0 (suc (suc (suc place))) in
    let at_1 = ap (λ (k : ℕ). get_or given k 0) first in
    let at_2 = ap (λ (k : ℕ). get_or given k 0) second in
    let at_3 = ap (λ (k : ℕ). get_or given k 0) third in
    omega arith

pub low_word : (word : ℕ) → low_bytes 4 word ≡ word % 256 ∷ word / 256 % 256 ∷ word / 65536 % 256 ∷ word / 16777216 % 256 ∷ []
low_word word =
    let second : word / 256 / 256 ≡ word / 65536 = omega arith in
    let third : word / 256 / 256 / 256 ≡ word / 16777216 = omega arith in
    λ i. word % 256 ∷ word / 256 % 256 ∷ second i % 256 ∷ third i % 256 ∷ []

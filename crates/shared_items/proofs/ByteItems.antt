-- The items of a slice of bytes are bytes, and so are those at its front
use Rattle.std.proofs.Common.{◌≡◌, ◌^◌, ℕ, zero, suc, ◌<◌, true, List, [], ◌∷◌, length, take, drop, refl, sym, ap, arith}
use Rattle.std.specs.Prelude.{nat_lt, nat_le}
use Rattle.std.proofs.lemmas.Bool.Decides.{nat_tests}
use Rattle.image_format.specs.Format.{raw, any}
use Rattle.image_format.specs.Reading.{read, read_if}
use Rattle.image_format.proofs.Numerals.{AllBytes}
use Rattle.shared_items.specs.SharedTests.{are_bytes}

is_byte : (n : ℕ) → n < 256 → nat_lt n (2 ^ 8) ≡ true
is_byte n h = grind (arith, nat_tests)

pub front_is_bytes : (n : ℕ) (text : List ℕ) → AllBytes text → are_bytes (take n text) ≡ true
front_is_bytes zero text h = refl
front_is_bytes (suc n) [] h = refl
front_is_bytes (suc n) (byte ∷ text) h = rw (is_byte byte (h 0)) (front_is_bytes n text (λ i. h (suc i)))

pub reads_bytes : (n : ℕ) (text : List ℕ) → AllBytes text → read (raw n any) text ≡ read (raw n are_bytes) text
unfolding read
reads_bytes n text h = ap (λ b. read_if (nat_le n (length text)) b (take n text) (drop n text) (length text)) (sym (front_is_bytes n text h))

-- A number's bytes and the number in bytes undo each other
use Rattle.std.proofs.Common.{Fits, w8, ◌≡◌, ℕ, ◌<◌, List, [], ◌∷◌, length, get_or, refl, arith}
use Rattle.std.proofs.lemmas.Nat.{le_bytes_2, le_bytes_4, le_bytes_8, from_le_bytes-to_le_bytes_2, from_le_bytes-to_le_bytes_4, from_le_bytes-to_le_bytes_8}
use Rattle.image_format.specs.Format.{Size, n8, n16, n32, n64, byte_count, number_text, number_in, number_limit}

abbrev pub AllBytes : List ℕ → Type 0
AllBytes bytes = (i : ℕ) → get_or bytes i 0 < 256

-- as the type of a slice tells it
pub fit_bytes : (bytes : List ℕ) → ((i : ℕ) → Fits w8 (get_or bytes i 0)) → AllBytes bytes
fit_bytes bytes h i = omega (arith, h i)

pub length-number_text : (size : Size) (n : ℕ) → length (number_text size n) ≡ byte_count size
unfolding number_text byte_count
length-number_text n8 n = refl
length-number_text n16 n = refl
length-number_text n32 n = refl
length-number_text n64 n = refl

pub number_in-number_text : (size : Size) (n : ℕ) → n < number_limit size → number_in size (number_text size n) ≡ n
unfolding number_text number_in
number_in-number_text n8 n h = refl
number_in-number_text n16 n h = from_le_bytes-to_le_bytes_2 n h
number_in-number_text n32 n h = from_le_bytes-to_le_bytes_4 n h
number_in-number_text n64 n h = from_le_bytes-to_le_bytes_8 n h

one_byte : (bytes : List ℕ) → length bytes ≡ 1 → get_or bytes 0 0 ∷ [] ≡ bytes
one_byte [] h = cc
one_byte (b ∷ []) h = refl
one_byte (b ∷ c ∷ bytes) h = cc

pub number_text-number_in : (size : Size) (bytes : List ℕ) → length bytes ≡ byte_count size → AllBytes bytes → number_text size (number_in size bytes) ≡ bytes
unfolding number_text number_in byte_count
number_text-number_in n8 bytes size h = one_byte bytes size
number_text-number_in n16 bytes size h = le_bytes_2 bytes _ size h refl
number_text-number_in n32 bytes size h = le_bytes_4 bytes _ size h refl
number_text-number_in n64 bytes size h = le_bytes_8 bytes _ size h refl

pub number_in-below : (size : Size) (bytes : List ℕ) → AllBytes bytes → number_in size bytes < number_limit size
unfolding number_in
number_in-below n8 bytes h = h 0
number_in-below n16 bytes h = omega (arith, h 0, h 1)
number_in-below n32 bytes h = omega (arith, h 0, h 1, h 2, h 3)
number_in-below n64 bytes h = omega (arith, h 0, h 1, h 2, h 3, h 4, h 5, h 6, h 7)

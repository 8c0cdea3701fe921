-- Bytes of a memory, read and written one after the other.
--     bytes_at-none_yet, bytes_at-more, bytes_at-missing      no byte; one more; none, once one is missing
--     with_bytes-more, with_low-more       the first byte of those to write
--     store-denied, store-made             a store, by whether its bytes may be written
--     IsNumber found count number unit     so many bytes were found, and spell a number below a unit
use Rattle.std.proofs.Common.{add_assoc, drop-cons, pow-suc, mul_assoc, length-append, lit<, ◌≡◌, ℕ, zero, suc, ◌+◌, ◌-◌, ◌*◌, ◌/◌, ◌%◌, ◌^◌, ◌<◌, ◌≤◌, List, [], ◌∷◌, ◌++◌, length, drop, refl, sym, ap, subst, ◌∙◌, arith, add-zero, add-suc, add-one}
use Rattle.std.specs.Prelude.{Option, Some, None, true, false, if◌then◌else◌, is_some, slice_index}
use Rattle.std.specs.Option.{option_map}
use Rattle.std.proofs.Math.Nat.{pow-le-pow_right, mul-le-mul}
use Rattle.std.proofs.lemmas.Nat.{mul-add-lt}
use Rattle.std.proofs.lemmas.Option.{same_Some, none-some}
use Rattle.plain_process.specs.declared.memory.Right.{Right}
use Rattle.plain_process.specs.declared.memory.Right.TheVariants.{Write}
use Rattle.plain_process.specs.Memory.{Memory, byte_at, bytes_at, followed_by, with_byte, with_bytes, little_endian, low_bytes, store}

-- ---- reads

pub bytes_at-none_yet : (m : Memory) (right : Right) (a : ℕ) → bytes_at m right a 0 ≡ Some []
unfolding bytes_at
bytes_at-none_yet m right a = refl

after_one : (m : Memory) (right : Right) (a i : ℕ) → bytes_at m right a (i + 1) ≡ followed_by (bytes_at m right a i) (byte_at m right (a + i))
unfolding bytes_at
after_one m right a i = ap (bytes_at m right a) (add-one i)

pub bytes_at-more : (m : Memory) (right : Right) (a i : ℕ) (front : List ℕ) (byte : ℕ) → bytes_at m right a i ≡ Some front → byte_at m right (a + i) ≡ Some byte
    → bytes_at m right a (i + 1) ≡ Some (front ++ byte ∷ [])
bytes_at-more m right a i front byte before is = after_one m right a i ∙ (λ k. followed_by (before k) (is k))

none-further : (m : Memory) (right : Right) (a i k : ℕ) → bytes_at m right a i ≡ None → bytes_at m right a (i + k) ≡ None
unfolding bytes_at
none-further m right a i zero none = ap (bytes_at m right a) (add-zero i) ∙ none
none-further m right a i (suc k) none =
    ap (bytes_at m right a) (add-suc i k) ∙ ap (λ front. followed_by front (byte_at m right (a + (i + k)))) (none-further m right a i k none)

after_none : (front : Option (List ℕ)) → followed_by front None ≡ None
after_none None = refl
after_none (Some front) = refl

pub bytes_at-missing : (m : Memory) (right : Right) (a i n : ℕ) → i < n → byte_at m right (a + i) ≡ None → bytes_at m right a n ≡ None
bytes_at-missing m right a i n below missing =
    let whole : n ≡ i + 1 + (n - (i + 1)) = omega arith in
    ap (bytes_at m right a) whole
    ∙ none-further m right a (i + 1) (n - (i + 1)) (after_one m right a i ∙ ap (followed_by (bytes_at m right a i)) missing ∙ after_none (bytes_at m right a i))

both_found : (front : Option (List ℕ)) (byte : Option ℕ) → is_some front ≡ true → is_some byte ≡ true → is_some (followed_by front byte) ≡ true
both_found (Some front) (Some byte) h g = refl
both_found (Some front) None h g = g
both_found None byte h g = h

pub is_some-more : (m : Memory) (right : Right) (a i byte : ℕ) → is_some (bytes_at m right a i) ≡ true → byte_at m right (a + i) ≡ Some byte → is_some (bytes_at m right a (i + 1)) ≡ true
is_some-more m right a i byte before is = ap is_some (after_one m right a i) ∙ both_found _ _ before (ap is_some is)

-- ---- numbers

little_endian-append : (front : List ℕ) (byte : ℕ) → little_endian (front ++ byte ∷ []) ≡ little_endian front + byte * 256 ^ length front
little_endian-append [] byte = omega arith
little_endian-append (first ∷ front) byte =
    let later = little_endian-append front byte in
    ap (λ n. first + 256 * n) later ∙ shifted first (little_endian front) byte (256 ^ length front)
    ∙ ap (λ u. first + 256 * little_endian front + byte * u) (sym (pow-suc 256 (length front)))
  where
    shifted : (f n b u : ℕ) → f + 256 * (n + b * u) ≡ f + 256 * n + b * (u * 256)
    shifted f n b u = let p : b * (u * 256) ≡ b * u * 256 = sym (mul_assoc b u 256) in omega arith

-- so many bytes were found, and spell a number below a unit
pub record IsNumber (found : Option (List ℕ)) (count number scale : ℕ) : Type 0 where
  pub value : option_map little_endian found ≡ Some number
  pub many : option_map length found ≡ Some count
  pub unit : scale ≡ 256 ^ count
  pub below : number < scale

with_one : (found : Option (List ℕ)) (i n u byte : ℕ) → IsNumber found i n u → byte < 256 → IsNumber (followed_by found (Some byte)) (i + 1) (n + byte * u) (u * 256)
with_one None i n u byte is small = absurd (none-some _ is.value)
with_one (Some front) i n u byte is small =
    let value : little_endian front ≡ n = same_Some _ _ is.value in
    let many : length front ≡ i = same_Some _ _ is.many in
    let unit : u ≡ 256 ^ length front = is.unit ∙ ap (λ k. 256 ^ k) (sym many) in
    record {
      value = ap (λ k. Some k) (little_endian-append front byte ∙ (λ k. value k + byte * sym unit k));
      many = ap (λ k. Some k) (length-append front (byte ∷ []) ∙ ap (λ k. k + 1) many);
      unit = ap (λ k. k * 256) is.unit ∙ sym (pow-suc 256 i) ∙ ap (λ k. 256 ^ k) (sym (add-one i));
      below = let digit : byte * u + n < u * 256 = mul-add-lt byte u n 256 small is.below in omega arith;
    }

pub number-none_yet : (m : Memory) (right : Right) (a : ℕ) → IsNumber (bytes_at m right a 0) 0 0 1
unfolding bytes_at
number-none_yet m right a = record { value = refl; many = refl; unit = refl; below = omega arith }

pub number-more : (m : Memory) (right : Right) (a i n u byte : ℕ) → IsNumber (bytes_at m right a i) i n u → byte_at m right (a + i) ≡ Some byte → byte < 256
    → IsNumber (bytes_at m right a (i + 1)) (i + 1) (n + byte * u) (u * 256)
number-more m right a i n u byte is there small =
    subst (λ found. IsNumber found (i + 1) (n + byte * u) (u * 256)) (sym (after_one m right a i ∙ ap (followed_by (bytes_at m right a i)) there))
    (with_one (bytes_at m right a i) i n u byte is small)

pub unit_fits : (u i : ℕ) → u ≡ 256 ^ i → i ≤ 4 → u ≤ 2 ^ 32
unit_fits u i is few = subst (λ k. k ≤ 2 ^ 32) (sym is) (pow-le-pow_right {n = 256} (lit< tt) few)

pub digit_fits : (byte u i : ℕ) → byte < 256 → u ≡ 256 ^ i → i ≤ 4 → byte * u ≤ 256 * 2 ^ 32
digit_fits byte u i small is few = mul-le-mul (let below : byte ≤ 256 = omega arith in below) (unit_fits u i is few)

-- ---- writes

pub with_bytes-done : (m : Memory) (a : ℕ) → with_bytes m a [] ≡ m
unfolding with_bytes
with_bytes-done m a = refl

with_first : (m : Memory) (a byte : ℕ) (rest : List ℕ) → with_bytes m a (byte ∷ rest) ≡ with_bytes (with_byte m a byte) (a + 1) rest
unfolding with_bytes
with_first m a byte rest = refl

pub with_bytes-more : (m : Memory) (a i : ℕ) (bytes : List ℕ) → i < length bytes
    → with_bytes m (a + i) (drop i bytes) ≡ with_bytes (with_byte m (a + i) (slice_index bytes i)) (a + (i + 1)) (drop (i + 1) bytes)
with_bytes-more m a i bytes inside =
    ap (with_bytes m (a + i)) (drop-cons bytes i 0 inside) ∙ with_first m (a + i) (slice_index bytes i) (drop (suc i) bytes)
    ∙ (λ k. with_bytes (with_byte m (a + i) (slice_index bytes i)) (add_assoc a i 1 k) (drop (sym (add-one i) k) bytes))

pub with_low-more : (m : Memory) (a i size value : ℕ) → i < size
    → with_bytes m (a + i) (low_bytes (size - i) value) ≡ with_bytes (with_byte m (a + i) (value % 256)) (a + (i + 1)) (low_bytes (size - (i + 1)) (value / 256))
with_low-more m a i size value inside =
    let more : size - i ≡ suc (size - (i + 1)) = omega arith in
    ap (λ n. with_bytes m (a + i) (low_bytes n value)) more ∙ with_first m (a + i) (value % 256) (low_bytes (size - (i + 1)) (value / 256))
    ∙ ap (λ b. with_bytes (with_byte m (a + i) (value % 256)) b (low_bytes (size - (i + 1)) (value / 256))) (add_assoc a i 1)

length-low_bytes : (n value : ℕ) → length (low_bytes n value) ≡ n
length-low_bytes zero value = refl
length-low_bytes (suc n) value = ap suc (length-low_bytes n (value / 256))

tested : (m : Memory) (a size value : ℕ) → store m a size value ≡ (if is_some (bytes_at m Write a size) then Some (with_bytes m a (low_bytes size value)) else None)
tested m a size value =
    ap (λ n. if is_some (bytes_at m Write a n) then Some (with_bytes m a (low_bytes size value)) else None) (length-low_bytes size value)

pub store-denied : (m : Memory) (a size value : ℕ) → is_some (bytes_at m Write a size) ≡ false → store m a size value ≡ None
store-denied m a size value denied = tested m a size value ∙ ap (λ b. if b then Some (with_bytes m a (low_bytes size value)) else None) denied

pub store-made : (m : Memory) (a size value : ℕ) (after : Memory) → is_some (bytes_at m Write a size) ≡ true → after ≡ with_bytes m a (low_bytes size value)
    → store m a size value ≡ Some after
store-made m a size value after granted is =
    tested m a size value ∙ ap (λ b. if b then Some (with_bytes m a (low_bytes size value)) else None) granted ∙ ap (λ (n : Memory). Some n) (sym is)

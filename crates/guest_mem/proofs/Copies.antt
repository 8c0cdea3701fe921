-- Copies of bytes, a part after another, and the bytes of words.
--     length-bytes_at, copied_more       bytes that were read, with one part more
--     written_more                       bytes that were put, with one part more
--     spelt-2, spelt-4                   the number that single bytes spell
--     low_bytes-word                     the first bytes of a word are its low bytes
use Rattle.std.proofs.Common.{◌≡◌, ℕ, zero, suc, ◌+◌, ◌-◌, ◌*◌, ◌/◌, ◌%◌, ◌≤◌, List, [], ◌∷◌, ◌++◌, length, take, drop, refl, sym, ap, subst, ◌∙◌, arith, add-zero, append_assoc, length-append, inl, inr}
use Rattle.std.proofs.Math.Seq.{take-add}
use Rattle.std.proofs.lemmas.List.{length-take-le}
use Rattle.std.specs.Prelude.{Option, Some, None, ◌⊎◌, option_map}
use Rattle.plain_process.specs.declared.memory.Right.{Right}
use Rattle.plain_process.specs.Memory.{Memory, byte_at, followed_by, bytes_at, with_bytes, little_endian, low_bytes}
use Rattle.guest_pages.proofs.Ranges.{joined, bytes_at-split, with_bytes-split}

one_longer : (n : ℕ) (front : Option (List ℕ)) (byte : Option ℕ) (xs : List ℕ) → ((ys : List ℕ) → front ≡ Some ys → length ys ≡ n) → followed_by front byte ≡ Some xs → length xs ≡ suc n
one_longer n None byte xs sizes is = cc
one_longer n (Some front) None xs sizes is = cc
one_longer n (Some front) (Some byte) xs sizes is =
    let same : front ++ byte ∷ [] ≡ xs = cc in
    let size : length front ≡ n = sizes front refl in
    ap length (sym same) ∙ length-append front (byte ∷ []) ∙ omega arith

pub length-bytes_at : (m : Memory) (right : Right) (a n : ℕ) (xs : List ℕ) → bytes_at m right a n ≡ Some xs → length xs ≡ n
unfolding bytes_at
length-bytes_at m right a zero xs is = let same : [] ≡ xs = cc in ap length (sym same)
length-bytes_at m right a (suc n) xs is = one_longer n (bytes_at m right a n) (byte_at m right (a + n)) xs (length-bytes_at m right a n) is

length-appended : (initial t : List ℕ) (n : ℕ) (front : Option (List ℕ)) → ((ys : List ℕ) → front ≡ Some ys → length ys ≡ n)
    → option_map (λ bytes. initial ++ bytes) front ≡ Some t → length t ≡ length initial + n
length-appended initial t n None sizes is = cc
length-appended initial t n (Some front) sizes is =
    let same : initial ++ front ≡ t = cc in
    ap length (sym same) ∙ length-append initial front ∙ ap (λ k. length initial + k) (sizes front refl)

pub length-copied : (m : Memory) (right : Right) (a n : ℕ) (initial t : List ℕ) → option_map (λ bytes. initial ++ bytes) (bytes_at m right a n) ≡ Some t → length t ≡ length initial + n
length-copied m right a n initial t is = length-appended initial t n (bytes_at m right a n) (length-bytes_at m right a n) is

appended_more : (initial t piece : List ℕ) (front back : Option (List ℕ)) → option_map (λ bytes. initial ++ bytes) front ≡ Some t → back ≡ Some piece
    → option_map (λ bytes. initial ++ bytes) (joined front back) ≡ Some (t ++ piece)
appended_more initial t piece None back is next = cc
appended_more initial t piece (Some front) None is next = cc
appended_more initial t piece (Some front) (Some back) is next =
    let same : initial ++ front ≡ t = cc in
    let more : back ≡ piece = cc in
    ap (λ xs. Some xs) (sym (append_assoc initial front back) ∙ (λ k. same k ++ more k))

pub copied_more : (m : Memory) (right : Right) (a i j : ℕ) (initial t piece next : List ℕ)
    → option_map (λ bytes. initial ++ bytes) (bytes_at m right a i) ≡ Some t → bytes_at m right (a + i) j ≡ Some piece → next ≡ t ++ piece
    → option_map (λ bytes. initial ++ bytes) (bytes_at m right a (i + j)) ≡ Some next
copied_more m right a i j initial t piece next so_far more put =
    ap (option_map (λ bytes. initial ++ bytes)) (bytes_at-split m right a i j)
    ∙ appended_more initial t piece (bytes_at m right a i) (bytes_at m right (a + i) j) so_far more
    ∙ ap (λ xs. Some xs) (sym put)

pub written_more : (m now next : Memory) (a i j : ℕ) (piece : List ℕ) → i + j ≤ length piece → now ≡ with_bytes m a (take i piece)
    → next ≡ with_bytes now (a + i) (take (i + j - i) (drop i piece)) → next ≡ with_bytes m a (take (i + j) piece)
written_more m now next a i j piece within so_far put =
    let size : i + j - i ≡ j = omega arith in
    let start : a + i ≡ a + length (take i piece) = ap (λ k. a + k) (sym (length-take-le i piece (omega arith))) in
    put
    ∙ (λ k. with_bytes (so_far k) (start k) (take (size k) (drop i piece)))
    ∙ sym (with_bytes-split m a (take i piece) (take j (drop i piece)))
    ∙ ap (with_bytes m a) (sym (take-add i j piece))

-- single bytes, one after another
next_byte : (m : Memory) (right : Right) (a n : ℕ) (front : List ℕ) (byte : ℕ) → bytes_at m right a n ≡ Some front → byte_at m right (a + n) ≡ Some byte
    → bytes_at m right a (suc n) ≡ Some (front ++ byte ∷ [])
unfolding bytes_at
next_byte m right a n front byte so_far next = λ k. followed_by (so_far k) (next k)

two_bytes : (m : Memory) (right : Right) (a b0 b1 : ℕ) → byte_at m right a ≡ Some b0 → byte_at m right (a + 1) ≡ Some b1 → bytes_at m right a 2 ≡ Some (b0 ∷ b1 ∷ [])
unfolding bytes_at
two_bytes m right a b0 b1 first second = next_byte m right a 1 (b0 ∷ []) b1 (next_byte m right a 0 [] b0 refl (ap (byte_at m right) (add-zero a) ∙ first)) second

pub spelt-2 : (m : Memory) (right : Right) (a size b0 b1 value : ℕ) → byte_at m right a ≡ Some b0 → byte_at m right (a + 1) ≡ Some b1
    → value ≡ b0 + b1 * 256 → size ≡ 2 → Some value ≡ option_map little_endian (bytes_at m right a size)
spelt-2 m right a size b0 b1 value first second is two =
    let same : value ≡ b0 + 256 * (b1 + 0) = omega arith in
    ap (λ n. Some n) same ∙ sym (ap (option_map little_endian) (ap (bytes_at m right a) two ∙ two_bytes m right a b0 b1 first second))

pub spelt-4 : (m : Memory) (right : Right) (a size b0 b1 b2 b3 value : ℕ) → byte_at m right a ≡ Some b0 → byte_at m right (a + 1) ≡ Some b1
    → byte_at m right (a + 2) ≡ Some b2 → byte_at m right (a + 3) ≡ Some b3
    → value ≡ b0 + b1 * 256 + b2 * 65536 + b3 * 16777216 → size ≡ 4 → Some value ≡ option_map little_endian (bytes_at m right a size)
spelt-4 m right a size b0 b1 b2 b3 value first second third fourth is four =
    let same : value ≡ b0 + 256 * (b1 + 256 * (b2 + 256 * (b3 + 0))) = omega arith in
    let bytes : bytes_at m right a 4 ≡ Some (b0 ∷ b1 ∷ b2 ∷ b3 ∷ []) =
    next_byte m right a 3 (b0 ∷ b1 ∷ b2 ∷ []) b3 (next_byte m right a 2 (b0 ∷ b1 ∷ []) b2 (two_bytes m right a b0 b1 first second) third) fourth in
    ap (λ n. Some n) same ∙ sym (ap (option_map little_endian) (ap (bytes_at m right a) four ∙ bytes))

-- the bytes of a word
abbrev pub word_bytes : ℕ → List ℕ
word_bytes value = value % 256 ∷ value / 256 % 256 ∷ value / 65536 % 256 ∷ value / 16777216 % 256 ∷ []

four_bytes : (value : ℕ) → word_bytes value ≡ low_bytes 4 value
four_bytes value =
    let third : value / 65536 ≡ value / 256 / 256 = omega arith in
    let fourth : value / 16777216 ≡ value / 256 / 256 / 256 = omega arith in
    λ k. value % 256 ∷ value / 256 % 256 ∷ third k % 256 ∷ fourth k % 256 ∷ []

pub low_bytes-word : (value size : ℕ) (bytes : List ℕ) → bytes ≡ word_bytes value → (size ≡ 1) ⊎ ((size ≡ 2) ⊎ (size ≡ 4)) → take (size - 0) bytes ≡ low_bytes size value
low_bytes-word value size bytes is sizes = ap (take (size - 0)) is ∙ front sizes
  where
    front : (size ≡ 1) ⊎ ((size ≡ 2) ⊎ (size ≡ 4)) → take (size - 0) (word_bytes value) ≡ low_bytes size value
    front (inl one) = subst (λ n. take (n - 0) (word_bytes value) ≡ low_bytes n value) (sym one) refl
    front (inr (inl two)) = subst (λ n. take (n - 0) (word_bytes value) ≡ low_bytes n value) (sym two) refl
    front (inr (inr four)) = subst (λ n. take (n - 0) (word_bytes value) ≡ low_bytes n value) (sym four) (four_bytes value)

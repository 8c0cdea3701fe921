-- Ranges made of two.
--     bytes_at-split, is_mapped-split, with_bytes-split       one range after another
--     is_mapped-readable                                      what may be had is mapped
use Rattle.std.proofs.Common.{◌≡◌, ℕ, zero, suc, ◌+◌, ◌/◌, ◌%◌, Bool, true, false, cond, ◌&&◌, List, [], ◌∷◌, ◌++◌, length, refl, sym, ap, subst, ◌∙◌, arith, add-zero, add-suc, add_assoc, append_assoc}
use Rattle.std.proofs.lemmas.List.{append-nil}
use Rattle.std.specs.Prelude.{Option, Some, None, IsSome, is_some}
use Rattle.std.specs.FinMap as map
use Rattle.plain_process.specs.declared.memory.Right.{Right}
use Rattle.plain_process.specs.declared.memory.Frame.{Frame}
use Rattle.plain_process.specs.Memory.{Memory, byte_in, byte_at, followed_by, bytes_at, with_byte, with_bytes}
use Rattle.guest_pages.specs.Refusals.{is_mapped}

abbrev pub joined : Option (List ℕ) → Option (List ℕ) → Option (List ℕ)
joined (Some front) (Some back) = Some (front ++ back)
joined _ _ = None

joined-nothing : (front : Option (List ℕ)) → front ≡ joined front (Some [])
joined-nothing None = refl
joined-nothing (Some front) = ap (λ xs. Some xs) (sym (append-nil front))

joined-followed : (front back : Option (List ℕ)) (byte : Option ℕ) → followed_by (joined front back) byte ≡ joined front (followed_by back byte)
joined-followed None back byte = refl
joined-followed (Some front) None byte = refl
joined-followed (Some front) (Some back) None = refl
joined-followed (Some front) (Some back) (Some byte) = ap (λ xs. Some xs) (append_assoc front back (byte ∷ []))

pub bytes_at-split : (m : Memory) (right : Right) (a i j : ℕ) → bytes_at m right a (i + j) ≡ joined (bytes_at m right a i) (bytes_at m right (a + i) j)
unfolding bytes_at
bytes_at-split m right a i zero = ap (bytes_at m right a) (add-zero i) ∙ joined-nothing (bytes_at m right a i)
bytes_at-split m right a i (suc j) =
    ap (bytes_at m right a) (add-suc i j)
    ∙ (λ k. followed_by (bytes_at-split m right a i j k) (byte_at m right (sym (add_assoc a i j) k)))
    ∙ joined-followed (bytes_at m right a i) (bytes_at m right (a + i) j) (byte_at m right (a + i + j))

and_assoc : (a b c : Bool) → (a && b) && c ≡ a && (b && c)
and_assoc true b c = refl
and_assoc false b c = refl

and_true : (a : Bool) → a ≡ a && true
and_true true = refl
and_true false = refl

pub is_mapped-split : (m : Memory) (a i j : ℕ) → is_mapped m a (i + j) ≡ is_mapped m a i && is_mapped m (a + i) j
unfolding is_mapped
is_mapped-split m a i zero = ap (is_mapped m a) (add-zero i) ∙ and_true (is_mapped m a i)
is_mapped-split m a i (suc j) =
    ap (is_mapped m a) (add-suc i j)
    ∙ (λ k. is_mapped-split m a i j k && is_some (map.get m (sym (add_assoc a i j) k / 4096)))
    ∙ and_assoc (is_mapped m a i) (is_mapped m (a + i) j) (is_some (map.get m ((a + i + j) / 4096)))

pub with_bytes-split : (m : Memory) (a : ℕ) (front back : List ℕ) → with_bytes m a (front ++ back) ≡ with_bytes (with_bytes m a front) (a + length front) back
unfolding with_bytes
with_bytes-split m a [] back = ap (λ b. with_bytes m b back) (sym (add-zero a))
with_bytes-split m a (byte ∷ front) back =
    with_bytes-split (with_byte m a byte) (a + 1) front back
    ∙ ap (λ b. with_bytes (with_bytes (with_byte m a byte) (a + 1) front) b back) (omega arith)

pub false_true : {A : Type 0} → false ≡ true → A
false_true e = absurd (subst (λ b. cond b ⊥ (Unit {0})) e tt)

byte-mapped : (right : Right) (offset : ℕ) (found : Option Frame) → IsSome (byte_in right offset found) → is_some found ≡ true
byte-mapped right offset None had = false_true had
byte-mapped right offset (Some frame) had = refl

front_had : (front : Option (List ℕ)) (byte : Option ℕ) → IsSome (followed_by front byte) → IsSome front × IsSome byte
front_had None byte had = false_true had
front_had (Some front) None had = false_true had
front_had (Some front) (Some byte) had = (refl, refl)

pub is_mapped-readable : (m : Memory) (right : Right) (a n : ℕ) → IsSome (bytes_at m right a n) → is_mapped m a n ≡ true
unfolding is_mapped bytes_at byte_at
is_mapped-readable m right a zero had = refl
is_mapped-readable m right a (suc n) had =
    let both = front_had (bytes_at m right a n) (byte_at m right (a + n)) had in
    (λ i. is_mapped-readable m right a n both.0 i && byte-mapped right ((a + n) % 4096) (map.get m ((a + n) / 4096)) both.1 i)

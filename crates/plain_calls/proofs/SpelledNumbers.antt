-- Whether bytes spell a number, byte by byte.
--     Spells bytes value done rest      the bytes spell it where those after the first so many spell the rest
use Rattle.std.proofs.Common.{drop-cons, ◌≡◌, ◌≢◌, ℕ, ◌+◌, ◌*◌, ◌/◌, ◌%◌, ◌==◌, ◌<◌, false, List, length, drop, sym, ap, ◌∙◌, arith, add-one}
use Rattle.std.specs.Prelude.{slice_index}
use Rattle.std.proofs.lemmas.Bool.Decides.{nat_tests}
use Rattle.plain_process.specs.Memory.{little_endian}

abbrev pub Spells : List ℕ → ℕ → ℕ → ℕ → Type 0
Spells bytes value done rest = (little_endian bytes == value) ≡ (little_endian (drop done bytes) == rest)

next : (bytes : List ℕ) (done : ℕ) → done < length bytes → little_endian (drop done bytes) ≡ slice_index bytes done + 256 * little_endian (drop (done + 1) bytes)
next bytes done inside =
    ap little_endian (drop-cons bytes done 0 inside) ∙ ap (λ k. slice_index bytes done + 256 * little_endian (drop k bytes)) (sym (add-one done))

-- numbers by their last byte
differ : (byte later rest : ℕ) → byte < 256 → rest % 256 ≢ byte → (byte + 256 * later == rest) ≡ false
differ byte later rest small other = grind (arith, nat_tests)

same : (byte later rest : ℕ) → byte < 256 → rest % 256 ≡ byte → (byte + 256 * later == rest) ≡ (later == rest / 256)
same byte later rest small is = grind (arith, nat_tests)

pub spells_not : (bytes : List ℕ) (value done rest byte : ℕ) → Spells bytes value done rest → done < length bytes → slice_index bytes done ≡ byte → byte < 256 → rest % 256 ≢ byte
    → (little_endian bytes == value) ≡ false
spells_not bytes value done rest byte so_far inside is small other =
    so_far ∙ ap (λ n. n == rest) (next bytes done inside ∙ ap (λ b. b + 256 * little_endian (drop (done + 1) bytes)) is)
    ∙ differ byte (little_endian (drop (done + 1) bytes)) rest small other

pub spells_more : (bytes : List ℕ) (value done rest byte : ℕ) → Spells bytes value done rest → done < length bytes → slice_index bytes done ≡ byte → byte < 256 → rest % 256 ≡ byte
    → Spells bytes value (done + 1) (rest / 256)
spells_more bytes value done rest byte so_far inside is small equal =
    so_far ∙ ap (λ n. n == rest) (next bytes done inside ∙ ap (λ b. b + 256 * little_endian (drop (done + 1) bytes)) is)
    ∙ same byte (little_endian (drop (done + 1) bytes)) rest small equal

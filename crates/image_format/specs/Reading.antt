-- Reading a format from the front of a list of bytes.
--     read f text      the value and the bytes behind it; else how many bytes are left at the field that breaks the format,
--                      which is none where they end too early
--     Gives view result answer      a reader's result is that answer, unless memory was wanting
use Rattle.std.specs.Prelude.{◌≡◌, ℕ, nat_le, Bool, true, false, List, length, take, drop, Result, Ok, Err}
use Rattle.image_format.specs.Format.{FormatOf, unsigned, raw, give, next, byte_count, number_in}
use Rattle.image_format.specs.declared.fields.Fault.{Fault}
use Rattle.image_format.specs.declared.fields.Fault.TheVariants.{Left, Memory}

unfoldable pub read_if : {A : Type 0} → Bool → Bool → A → List ℕ → ℕ → Result (A × List ℕ) ℕ
read_if false allowed a rest left = Err 0
read_if true false a rest left = Err left
read_if true true a rest left = Ok (a, rest)

unfoldable pub read_next : {A B : Type 0} → Result (B × List ℕ) ℕ → (B → List ℕ → Result (A × List ℕ) ℕ)
    → Result (A × List ℕ) ℕ
read_next (Err left) k = Err left
read_next (Ok got) k = k got.0 got.1

unfoldable pub read : {A : Type 0} → FormatOf A → List ℕ → Result (A × List ℕ) ℕ
read (unsigned size ok) text =
    let n = number_in size (take (byte_count size) text) in
    read_if (nat_le (byte_count size) (length text)) (ok n) n (drop (byte_count size) text) (length text)
read (raw size ok) text =
    let bytes = take size text in
    read_if (nat_le size (length text)) (ok bytes) bytes (drop size text) (length text)
read (give a) text = Ok (a, text)
read (next f k) text = read_next (read f text) (λ b rest. read (k b) rest)

abbrev pub Gives : {R A : Type 0} → (R → A × List ℕ) → Result R Fault → Result (A × List ℕ) ℕ → Type 0
Gives view (Ok r) answer = answer ≡ Ok (view r)
Gives view (Err (Left left)) answer = answer ≡ Err left
Gives view (Err Memory) answer = Unit {0}

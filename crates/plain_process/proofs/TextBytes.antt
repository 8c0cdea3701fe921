-- A text, read byte by byte.
--     Reads memory address done front      after so many bytes, none of them zero, the text is these and what follows
--     rest_at, text_from-some, behind      what follows, and one byte more in front of it
use Rattle.std.proofs.Common.{◌≡◌, ◌≢◌, ℕ, suc, ◌+◌, ◌-◌, ◌==◌, ◌<◌, List, [], ◌∷◌, ◌++◌, refl, sym, ap, ◌∙◌, false, arith, append_assoc, append-nil, if◌then◌else◌}
use Rattle.std.proofs.lemmas.Bool.Decides.{nat_tests}
use Rattle.std.specs.Prelude.{Option, Some, None}
use Rattle.std.specs.Option.{option_map}
use Rattle.plain_process.specs.declared.memory.Right.TheVariants.{Read}
use Rattle.plain_process.specs.Memory.{Memory, byte_at}
use Rattle.plain_process.specs.Buffers.{text_at, text_from}

abbrev pub Reads : Memory → ℕ → ℕ → List ℕ → Type 0
Reads memory address done front = text_at memory address 256 ≡ option_map (λ rest. front ++ rest) (text_at memory (address + done) (256 - done))

text-suc : (memory : Memory) (address n : ℕ) → text_at memory address (suc n) ≡ text_from (text_at memory (address + 1) n) (byte_at memory Read address)
unfolding text_at
text-suc memory address n = refl

pub text-zero : (memory : Memory) (address : ℕ) → text_at memory address 0 ≡ Some []
unfolding text_at
text-zero memory address = refl

-- what follows the first so many bytes
pub rest_at : (memory : Memory) (address done : ℕ) (byte : Option ℕ) → done < 256 → byte_at memory Read (address + done) ≡ byte
    → text_at memory (address + done) (256 - done) ≡ text_from (text_at memory (address + done + 1) (255 - done)) byte
rest_at memory address done byte less is =
    let more : 256 - done ≡ suc (255 - done) = omega arith in
    ap (text_at memory (address + done)) more ∙ text-suc memory (address + done) (255 - done) ∙ ap (text_from (text_at memory (address + done + 1) (255 - done))) is

pub text-missing : (memory : Memory) (address done : ℕ) (front : List ℕ) → Reads memory address done front → done < 256 → byte_at memory Read (address + done) ≡ None
    → text_at memory address 256 ≡ None
text-missing memory address done front so_far less is = so_far ∙ ap (option_map (λ rest. front ++ rest)) (rest_at memory address done None less is)

-- a zero byte ends the text
pub text-ended : (memory : Memory) (address done byte : ℕ) (front : List ℕ) → Reads memory address done front → done < 256 → byte_at memory Read (address + done) ≡ Some byte → byte ≡ 0
    → text_at memory address 256 ≡ Some (front ++ byte ∷ [])
text-ended memory address done byte front so_far less is zero_byte =
    so_far ∙ ap (option_map (λ rest. front ++ rest)) (rest_at memory address done (Some 0) less (is ∙ ap Some zero_byte))
    ∙ ap (λ b. Some (front ++ b ∷ [])) (sym zero_byte)

is_other : (byte : ℕ) → byte ≢ 0 → (byte == 0) ≡ false
is_other byte other = grind (arith, nat_tests)

pub text_from-some : (rest : Option (List ℕ)) (byte : ℕ) → byte ≢ 0 → text_from rest (Some byte) ≡ option_map (λ bytes. byte ∷ bytes) rest
text_from-some rest byte other = ap (λ b. if b then Some (0 ∷ []) else option_map (λ bytes. byte ∷ bytes) rest) (is_other byte other)

pub behind : (front : List ℕ) (byte : ℕ) (rest : Option (List ℕ))
    → option_map (λ r. front ++ r) (option_map (λ bytes. byte ∷ bytes) rest) ≡ option_map (λ r. (front ++ byte ∷ []) ++ r) rest
behind front byte None = refl
behind front byte (Some rest) = ap Some (sym (append_assoc front (byte ∷ []) rest))

pub text-more : (memory : Memory) (address done byte : ℕ) (front : List ℕ) → Reads memory address done front → done < 256 → byte_at memory Read (address + done) ≡ Some byte → byte ≢ 0
    → Reads memory address (done + 1) (front ++ byte ∷ [])
text-more memory address done byte front so_far less is other =
    let place : address + done + 1 ≡ address + (done + 1) = omega arith in
    let left : 255 - done ≡ 256 - (done + 1) = omega arith in
    so_far ∙ ap (option_map (λ rest. front ++ rest)) (rest_at memory address done (Some byte) less is ∙ text_from-some _ byte other)
    ∙ behind front byte (text_at memory (address + done + 1) (255 - done))
    ∙ ap (λ a. option_map (λ rest. (front ++ byte ∷ []) ++ rest) (text_at memory a (255 - done))) place
    ∙ ap (λ n. option_map (λ rest. (front ++ byte ∷ []) ++ rest) (text_at memory (address + (done + 1)) n)) left

-- as long as a text may be
pub text-full : (memory : Memory) (address done : ℕ) (front : List ℕ) → Reads memory address done front → done ≡ 256 → text_at memory address 256 ≡ Some front
text-full memory address done front so_far all =
    let none_left : 256 - done ≡ 0 = omega arith in
    so_far ∙ ap (λ n. option_map (λ rest. front ++ rest) (text_at memory (address + done) n)) none_left
    ∙ ap (option_map (λ rest. front ++ rest)) (text-zero memory (address + done)) ∙ ap Some (append-nil front)

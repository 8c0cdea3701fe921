-- File formats: what a list of bytes spells, and where it is damaged.
--     FormatOf A      the description of a format whose texts spell values of type A: its fields in order
--     Spells f text a      the bytes are a spelling of the value a, and nothing stands before or behind it
--     Breaks f text n      the bytes, which may go on behind a value, break the format: n is the place of the first field
--                          whose value is not allowed after the fields before it, or the length of the bytes where they
--                          end within or before a field
--     SpellsFile f end text a      of a whole file: nothing follows the value, and it passes a test at its end
--     Damaged f end text n         a whole file that spells nothing, with the place that is at fault
-- A number has its least significant byte first.
use Rattle.std.specs.Prelude.{◌≡◌, ℕ, zero, suc, ◌+◌, ◌^◌, ◌<◌, ◌≤◌, ◌⊎◌, Bool, true, false, IsTrue}
use Rattle.std.specs.Prelude.{List, [], ◌∷◌, ◌++◌, length, take, slice_index}
use Rattle.std.specs.Int.{w16, w32, w64, to_le_bytes, from_le_bytes}
use Rattle.views.specs.Numbers.{Byte}

-- how many bytes a number has
pub data Size : Type 0 where
  n8 : Size
  n16 : Size
  n32 : Size
  n64 : Size

unfoldable pub byte_count : Size → ℕ
byte_count n8 = 1
byte_count n16 = 2
byte_count n32 = 4
byte_count n64 = 8

-- a number as bytes
unfoldable pub number_text : Size → ℕ → List Byte
number_text n8 n = n ∷ []
number_text n16 n = to_le_bytes w16 n
number_text n32 n = to_le_bytes w32 n
number_text n64 n = to_le_bytes w64 n

-- the number in the first bytes
unfoldable pub number_in : Size → List Byte → ℕ
number_in n8 bytes = slice_index bytes 0
number_in n16 bytes = from_le_bytes w16 bytes
number_in n32 bytes = from_le_bytes w32 bytes
number_in n64 bytes = from_le_bytes w64 bytes

-- the numbers of a size are below this one
abbrev pub number_limit : Size → ℕ
number_limit n8 = 2 ^ 8
number_limit n16 = 2 ^ 16
number_limit n32 = 2 ^ 32
number_limit n64 = 2 ^ 64

-- unsigned size ok: a number that passes the test      raw n ok: so many bytes that pass the test      give
-- a: nothing more, and the value a next f k: first f, then what k says for the value of f
pub data FormatOf : Type 0 → Type 1 where
  unsigned : Size → (ℕ → Bool) → FormatOf ℕ
  raw : ℕ → (List Byte → Bool) → FormatOf (List Byte)
  give : {A : Type 0} → A → FormatOf A
  next : {A B : Type 0} → FormatOf B → (B → FormatOf A) → FormatOf A

infixl 10 ◌>>=◌
abbrev pub ◌>>=◌ : {A B : Type 0} → FormatOf B → (B → FormatOf A) → FormatOf A
◌>>=◌ f k = next f k

-- any value of a field
abbrev pub any : {A : Type 0} → A → Bool
any a = true

-- so many items, one after the other; the format of each may look at those before it
unfoldable pub each : {X : Type 0} → (List X → FormatOf X) → ℕ → List X → FormatOf (List X)
each item zero front = give front
each item (suc n) front = next (item front) (λ x. each item n (front ++ x ∷ []))

-- a list: how many items it has, in 32 bits, and the items
unfoldable pub counted : {X : Type 0} → (ℕ → Bool) → (List X → FormatOf X) → FormatOf (List X)
counted ok item = next (unsigned n32 ok) (λ n. each item n [])

-- the bytes of a field are too few, or they are all there and not allowed
abbrev pub BreaksField : ℕ → Bool → List Byte → ℕ → Type 0
BreaksField size allowed text n =
    ((length text < size) × (n ≡ length text))
    ⊎ ((size ≤ length text) × (allowed ≡ false) × (n ≡ 0))

unfoldable pub Spells : {A : Type 0} → FormatOf A → List Byte → A → Type 0
Spells (unsigned size ok) text n = (text ≡ number_text size n) × (n < number_limit size) × IsTrue (ok n)
Spells (raw size ok) text bytes = (text ≡ bytes) × (length bytes ≡ size) × IsTrue (ok bytes)
Spells (give a) text b = (text ≡ []) × (b ≡ a)
Spells (next {A} {B} f k) text a =
    (b : B) × (first : List ℕ) × (rest : List ℕ)
    × (text ≡ first ++ rest) × Spells f first b × Spells (k b) rest a

unfoldable pub Breaks : {A : Type 0} → FormatOf A → List Byte → ℕ → Type 0
Breaks (unsigned size ok) text n =
    BreaksField (byte_count size) (ok (number_in size (take (byte_count size) text))) text n
Breaks (raw size ok) text n = BreaksField size (ok (take size text)) text n
Breaks (give a) text n = ⊥
Breaks (next {A} {B} f k) text n =
    Breaks f text n
    ⊎ ((b : B) × (first : List ℕ) × (rest : List ℕ) × (m : ℕ)
    × (text ≡ first ++ rest) × Spells f first b × Breaks (k b) rest m × (n ≡ length first + m))

unfoldable pub SpellsFile : {A : Type 0} → FormatOf A → (A → Bool) → List Byte → A → Type 0
SpellsFile f end text a = Spells f text a × IsTrue (end a)

-- the file breaks its format, or bytes follow the value, or the whole value fails the test at the end
unfoldable pub Damaged : {A : Type 0} → FormatOf A → (A → Bool) → List Byte → ℕ → Type 0
Damaged {A} f end text n =
    Breaks f text n
    ⊎ ((a : A) × (first : List ℕ) × (rest : List ℕ) × (text ≡ first ++ rest) × Spells f first a
    × ((0 < length rest) ⊎ (end a ≡ false)) × (n ≡ length first))

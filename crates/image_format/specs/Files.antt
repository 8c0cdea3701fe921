-- What the reader of a file answers, and what holds of every format of a file.
--     IsRead result a      the answer is the value a, unless memory was wanting
--     IsDamagedAt file P result      where the answer is damage, it is of this file, at an offset of which P holds
--     FileLaws Spells Damaged      a text spells at most one value, and a value has at most one spelling; what is damaged spells nothing, and
--                                  all other bytes spell a value; a spelling that is cut short is damaged at its new length; and what
--                                  stands before the place of a damage, with the field there, decides it, whatever follows
use Rattle.std.specs.Prelude.{◌≡◌, ℕ, ◌<◌, ◌⊎◌, List, ◌++◌, length, take, slice_index, Result, Ok, Err}
use Rattle.image_format.specs.declared.damage.ReadFault.{ReadFault}
use Rattle.image_format.specs.declared.damage.ReadFault.TheVariants.{Damaged, Memory}

abbrev pub IsRead : {A : Type 0} → Result A ReadFault → A → Type 0
IsRead (Ok b) a = b ≡ a
IsRead (Err (Damaged damage)) a = ⊥
IsRead (Err Memory) a = Unit {0}

abbrev pub IsDamagedAt : {A : Type 0} → ℕ → (ℕ → Type 0) → Result A ReadFault → Type 0
IsDamagedAt file P (Ok a) = Unit {0}
IsDamagedAt file P (Err (Damaged damage)) = (damage.file ≡ file) × P damage.offset
IsDamagedAt file P (Err Memory) = Unit {0}

pub record FileLaws {A : Type 0} (IsSpelling : List ℕ → A → Type 0) (IsDamage : List ℕ → ℕ → Type 0) : Type 0 where
  pub one_value : (text : List ℕ) (a b : A) → IsSpelling text a → IsSpelling text b → a ≡ b
  pub one_text : (text other : List ℕ) (a : A) → IsSpelling text a → IsSpelling other a → text ≡ other
  pub one_place : (text : List ℕ) (n m : ℕ) → IsDamage text n → IsDamage text m → n ≡ m
  pub apart : (text : List ℕ) (a : A) (n : ℕ) → IsSpelling text a → IsDamage text n → ⊥
  pub either : (text : List ℕ) → ((i : ℕ) → slice_index text i < 256)
      → ((a : A) × IsSpelling text a) ⊎ ((n : ℕ) × IsDamage text n)
  pub cut : (text : List ℕ) (a : A) (n : ℕ) → IsSpelling text a → n < length text → IsDamage (take n text) n
  pub stays : (text more : List ℕ) (n : ℕ) → IsDamage text n → n < length text → IsDamage (text ++ more) n
  pub before : (text : List ℕ) (n : ℕ) → IsDamage text n
      → IsDamage (take n text) n ⊎ ((a : A) × IsSpelling (take n text) a)

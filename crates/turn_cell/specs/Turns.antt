-- What turns keep and passes know.
--     Knows seen held history parts         the history begins with what was seen, and what is held stands there
--     IsTurn ..                             what came of a turn: the value before and after it, and what the pass knows of them
--     KeepsOthers changes before after      what stands under a number that is not to be changed stands there afterwards
--     Agrees held parts                     what is held stands there
--     own held before after                 after a turn: what stands under the numbers held before, and under those that had nothing
--     longer, merged                        of two passes that are joined: the longer of what they had seen, and all that both hold
use Rattle.std.specs.Prelude.{◌≡◌, ℕ, Bool, true, false, not, ◌||◌, nat_le, if◌then◌else◌, List, length, ◌++◌, is_some, Option, Some, None}
use Rattle.std.specs.Ordering.{nat_cmp}
use Rattle.std.specs.FinMap as map
use Rattle.std.specs.FinMap.{FinMap}
use mathlib.Core.List.{IsPrefix}

module _ {P : Type 0} where
  abbrev pub KeepsOthers : (ℕ → Bool) → FinMap nat_cmp P → FinMap nat_cmp P → Type 0
  KeepsOthers changes before after = (n : ℕ) (x : P) → changes n ≡ false → map.get before n ≡ Some x → map.get after n ≡ Some x

  abbrev pub Agrees : FinMap nat_cmp P → FinMap nat_cmp P → Type 0
  Agrees held parts = (n : ℕ) (x : P) → map.get held n ≡ Some x → map.get parts n ≡ Some x

  abbrev pub is_held : FinMap nat_cmp P → ℕ → Bool
  is_held held n = is_some (map.get held n)

  -- each number that may be changed is held
  abbrev pub HoldsAll : FinMap nat_cmp P → (ℕ → Bool) → Type 0
  HoldsAll held changes = (n : ℕ) → changes n ≡ true → is_held held n ≡ true

  abbrev pub is_own : FinMap nat_cmp P → FinMap nat_cmp P → ℕ → Bool
  is_own held before n = is_held held n || not (is_held before n)

  abbrev pub own : FinMap nat_cmp P → FinMap nat_cmp P → FinMap nat_cmp P → FinMap nat_cmp P
  own held before after = map.retain_keys after (is_own held before)

  abbrev pub only_of : ℕ → Option P → FinMap nat_cmp P
  only_of n None = map.empty
  only_of n (Some x) = map.insert map.empty n x

  -- what stands under this number, and nothing else
  abbrev pub only : ℕ → FinMap nat_cmp P → FinMap nat_cmp P
  only n parts = only_of n (map.get parts n)

  abbrev pub merged : FinMap nat_cmp P → FinMap nat_cmp P → FinMap nat_cmp P
  merged first second = map.from_entries (map.entries first ++ map.entries second)

abbrev pub longer : {E : Type 0} → List E → List E → List E
longer first second = if nat_le (length second) (length first) then first else second

abbrev pub shorter : {E : Type 0} → List E → List E → List E
shorter first second = if nat_le (length second) (length first) then second else first

module _ {E P : Type 0} where
  abbrev pub Knows : List E → FinMap nat_cmp P → List E → FinMap nat_cmp P → Type 0
  Knows seen held history parts = IsPrefix seen history × Agrees held parts

  -- one act was done on a value that fits what the pass knew, and the pass knows what came of it
  pub record IsTurn {S O : Type 0} (history : S → List E) (parts : S → FinMap nat_cmp P) (changes : ℕ → Bool) (does : S → S → O → Type 0)
      (seen : List E) (held : FinMap nat_cmp P) (seen' : List E) (held' : FinMap nat_cmp P) (answer : O) : Type 0 where
    pub before : S
    pub after : S
    pub knew : Knows seen held (history before) (parts before)
    pub grew : IsPrefix (history before) (history after)
    pub others : KeepsOthers changes (parts before) (parts after)
    pub did : does before after answer
    pub sees : seen' ≡ history after
    pub holds : held' ≡ own held (parts before) (parts after)

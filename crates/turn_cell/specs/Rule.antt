-- The rule of a cell: word 0 is 0 where nobody has a turn, and the value is then in slot 0.
use Rattle.std.specs.Prelude.{◌≡◌, ◌≢◌, ℕ, List, [], ◌∷◌, length, slice_index, Option, Some, None}
use Rattle.std.specs.Ordering.{nat_cmp}
use Rattle.std.specs.FinMap as map
use Rattle.std.specs.FinMap.{FinMap}
use mathlib.Core.Option.{some}
use mathlib.Core.Option as slot
use mathlib.Core.List.{IsPrefix}
use lib.ListN.{get_elem?}
use Rattle.atomic_table.specs.Table.{State}
use Rattle.turn_cell.specs.declared.view.Turn.{Turn}
use Rattle.turn_cell.specs.declared.view.Turn.TheVariants.{Waits, Holds, Shut}
use Rattle.turn_cell.specs.declared.view.View.{View}
use Rattle.turn_cell.specs.Turns.{Agrees}

module _ {E P : Type 0} where
  -- no two views hold the same number
  abbrev pub Apart : List (View E P) → Type 0
  Apart views = (j k : ℕ) (v w : View E P) → get_elem? views j ≡ some v → get_elem? views k ≡ some w → j ≢ k
      → (n : ℕ) (x y : P) → map.get v.parts n ≡ Some x → map.get w.parts n ≡ Some y → ⊥

  -- the history begins with what the view has seen, and what it holds stands
  pub record Fits (log : List E) (parts : FinMap nat_cmp P) (v : View E P) : Type 0 where
    pub seen : IsPrefix v.seen log
    pub met : IsPrefix v.met log
    pub held : Agrees v.parts parts

  module _ {S : Type 0} (homes : List (slot.Option (Option S))) (holder : ℕ) (log : List E) (parts : FinMap nat_cmp P) (k : ℕ) where
    -- the holder alone has a turn, and knows the history and the parts from which it began
    abbrev pub HasTurn : Turn E P → Type 0
    HasTurn Waits = Unit {0}
    HasTurn (Holds log' parts') = (k ≡ holder) × (log' ≡ log) × (parts' ≡ parts)
    HasTurn (Shut log' parts') = (k ≡ holder) × (log' ≡ log) × (parts' ≡ parts) × (homes ≡ some None ∷ [])

  module _ {S : Type 0} (history : S → List E) (parts : S → FinMap nat_cmp P) (s : State (Option S) (View E P)) where
    pub record IsFree : Type 0 where
      pub value : S
      pub home : s.homes ≡ some (Some value) ∷ []
      pub each : (k : ℕ) (v : View E P) → get_elem? s.views k ≡ some v → (v.turn ≡ Waits) × Fits (history value) (parts value) v

    pub record IsTaken : Type 0 where
      pub holder : ℕ
      pub log : List E
      pub all : FinMap nat_cmp P
      pub each : (k : ℕ) (v : View E P) → get_elem? s.views k ≡ some v → Fits log all v × HasTurn s.homes holder log all k v.turn

    pub record IsKept : Type 0 where
      pub word : length s.words ≡ 1
      pub apart : Apart s.views
      pub free : slice_index s.words 0 ≡ 0 → IsFree
      pub taken : slice_index s.words 0 ≢ 0 → IsTaken

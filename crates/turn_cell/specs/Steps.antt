-- What each step on the word tells the pass that makes it.
use Rattle.std.specs.Prelude.{◌≡◌, ◌≢◌, ◌≤◌, ℕ, List, [], ◌∷◌, length, Option, Some, None}
use Rattle.std.specs.Ordering.{nat_cmp}
use Rattle.std.specs.FinMap.{FinMap}
use mathlib.Core.List.{IsPrefix}
use Rattle.atomic_table.specs.Table.{Me, Step}
use Rattle.turn_cell.specs.declared.view.Turn.TheVariants.{Waits, Holds, Shut}
use Rattle.turn_cell.specs.declared.view.View.{View}
use Rattle.turn_cell.specs.Turns.{own, Knows}
use Rattle.turn_cell.specs.Views.{view, with_turn}

abbrev pub Sat : Type 0 → Type 0 → Type 0 → Type 0
Sat S E P = Me (Option S) (View E P)

module _ {S E P : Type 0} where
  module _ (history : S → List E) (parts : S → FinMap nat_cmp P) where
    -- where the word was 0 the pass has its turn, and the value
    abbrev pub took : Step (Option S) → Sat S E P → ℕ → Sat S E P → Type 0
    took st m r m' =
        (r ≡ 0 → (x : S) × Knows m.0.seen m.0.parts (history x) (parts x) × (m' ≡ (with_turn m.0 (Holds (history x) (parts x)), (0, Some x) ∷ m.1)))
        × (r ≢ 0 → m' ≡ m)

    -- the pass has seen the history of the value that it gives back, and holds what it held, and what is new
    abbrev pub released : Step (Option S) → Sat S E P → ℕ → Sat S E P → Type 0
    released st m r m' = (log : List E) (all : FinMap nat_cmp P) (x : S) → m.0.turn ≡ Holds log all → m.1 ≡ (0, Some x) ∷ []
        → m' ≡ (view (history x) [] (own m.0.parts all (parts x)) Waits, [])

  -- the slot is taken out without a value
  abbrev pub opened : Step (Option S) → Sat S E P → ℕ → Sat S E P → Type 0
  opened st m r m' = (log : List E) (all : FinMap nat_cmp P) → m.0.turn ≡ Shut log all → m' ≡ (with_turn m.0 (Holds log all), (0, None) ∷ m.1)

  -- the slot is put back without a value
  abbrev pub shut : Step (Option S) → Sat S E P → ℕ → Sat S E P → Type 0
  shut st m r m' = (log : List E) (all : FinMap nat_cmp P) → m.0.turn ≡ Holds log all → m.1 ≡ (0, None) ∷ []
      → m' ≡ (with_turn m.0 (Shut log all), [])

  -- of two that have seen beginnings of one history, the longer begins with the shorter
  abbrev pub compared : Step (Option S) → Sat S E P → ℕ → Sat S E P → Type 0
  compared st m r m' = (m' ≡ (view m.0.seen [] m.0.parts m.0.turn, m.1)) × (length m.0.met ≤ length m.0.seen → IsPrefix m.0.met m.0.seen)

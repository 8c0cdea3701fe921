-- What a pass is seen as: `cell_of` is the cell that it is of, `seen_by` a beginning of the history,
-- `held_by` what stands under its numbers.
use Rattle.std.specs.Prelude.{◌≡◌, Bool, true, false, List, [], ◌∷◌, length, Option, None}
use Rattle.std.specs.Ordering.{nat_cmp}
use Rattle.std.specs.FinMap.{FinMap}
use Rattle.std.specs.FinMap as map
use mathlib.Core.List.{IsPrefix}
use Rattle.turn_cell.specs.Turns.{KeepsOthers, is_held}
use Rattle.atomic_table.specs.Seated.{TableId}
use Rattle.atomic_table.specs.declared.shared.Seat.{Seat}
use Rattle.turn_cell.specs.declared.view.Turn.{Turn}
use Rattle.turn_cell.specs.declared.view.Turn.TheVariants.{Waits, Holds, Shut}
use Rattle.turn_cell.specs.declared.view.View.{View}

module _ {E P : Type 0} where
  abbrev pub view : List E → List E → FinMap nat_cmp P → Turn E P → View E P
  view seen met parts turn = record { seen = seen; met = met; parts = parts; turn = turn }

  -- before the first turn: it has its turn, and there is no value
  abbrev pub newcomer : View E P
  newcomer = view [] [] map.empty (Shut [] map.empty)

  -- its view is taken over by another
  abbrev pub spent : View E P
  spent = view [] [] map.empty Waits

  abbrev pub with_turn : View E P → Turn E P → View E P
  with_turn v turn = view v.seen v.met v.parts turn

  abbrev pub is_waiting : Turn E P → Bool
  is_waiting Waits = true
  is_waiting _ = false

  module _ {S : Type 0} where
    abbrev pub cell_of : Seat S (View E P) → TableId
    cell_of s = s.table_id

    abbrev pub seen_by : Seat S (View E P) → List E
    seen_by s = s.me.0.seen

    abbrev pub held_by : Seat S (View E P) → FinMap nat_cmp P
    held_by s = s.me.0.parts

    -- it has no turn, and takes nothing with it
    abbrev pub IsIdle : Seat S (View E P) → Type 0
    IsIdle s = (length s.me.1 ≡ 0) × (is_waiting s.me.0.turn ≡ true)

  -- it has its turn, its slot is empty, and this value may come back: it goes on from what the pass found,
  -- and keeps what the pass does not hold
  module _ {S : Type 0} (history : S → List E) (parts : S → FinMap nat_cmp P) where
    pub record HasIt (s : Seat (Option S) (View E P)) (x : S) : Type 0 where
      pub log : List E
      pub all : FinMap nat_cmp P
      pub turn : s.me.0.turn ≡ Holds log all
      pub slot : s.me.1 ≡ (0, None) ∷ []
      pub grows : IsPrefix log (history x)
      pub others : KeepsOthers (is_held s.me.0.parts) all (parts x)

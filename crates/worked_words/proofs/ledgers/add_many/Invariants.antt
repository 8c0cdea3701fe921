use Rattle.std.proofs.Common.{◌≡◌, true}
use Rattle.turn_cell.specs.Turns.{is_held}
use Rattle.turn_cell.specs.Views.{cell_of, held_by}
use Rattle.worked_words.proofs.ledgers.add_many.Given as goal

-- the pass is of the same cell, and holds the number
abbrev pub invariant-loop : goal.invariant-loop
invariant-loop g l = (cell_of l.pass.seat ≡ cell_of l.initial.pass.seat) × (is_held (held_by l.pass.seat) l.number ≡ true)

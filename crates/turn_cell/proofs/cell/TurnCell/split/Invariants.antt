use Rattle.turn_cell.proofs.cell.TurnCell.split.Given as goal

-- the number that is asked for
abbrev pub ghosts-cut : goal.ghosts-cut
ghosts-cut g a = record { number = a.number }

use Rattle.std.proofs.Common.{◌∙◌, ap, Some}
use Rattle.turn_cell.proofs.Keeping.{first_of}
use Rattle.turn_cell.proofs.cell.TurnCell.take.Goals as goal

pub exchange-taken-requires : goal.exchange-taken-requires
exchange-taken-requires g c =
    let found = c.wait-seat.ensures.took in
    (c.wait-seat.ensures.cell ∙ c.requires, (Some found.0, first_of c.wait-seat.result.me.1 (Some found.0) (ap (λ m. m.1) found.2)))

use Rattle.std.proofs.Common.{ap, ◌∙◌, arith}
use Rattle.turn_cell.specs.Turns.{is_held}
use Rattle.turn_cell.specs.Views.{held_by}
use Rattle.turn_cell.proofs.Parts.{held_beside, held_alone}
use Rattle.worked_words.proofs.ledgers.two_passes.Goals as goal

pub returns-clause-holds : goal.returns-clause-holds
returns-clause-holds c =
    let all = held_by c.in-Ok.made.1.seat in (
      ap (λ m. is_held m 7) c.split-seven.ensures.kept ∙ held_beside all 9 7 (λ same. omega (arith, same)) ∙ ap (λ m. is_held m 7) c.in-Ok.ensures.held ∙ c.in_ok-ledger.ensures.0,
      ap (λ m. is_held m 9) c.split-seven.ensures.given ∙ held_alone 9 all (ap (λ m. is_held m 9) c.in-Ok.ensures.held ∙ c.in_ok-ledger.ensures.1),
    )

use Rattle.std.proofs.Common.{◌≡◌, ap, ◌∙◌, true, eqb-true}
use Rattle.std.specs.FinMap as map
use Rattle.turn_cell.specs.Turns.{is_held}
use Rattle.turn_cell.specs.Views.{held_by}
use Rattle.turn_cell.proofs.Parts.{found, still_held}
use Rattle.worked_words.proofs.ledgers.add_many.Goals as goal

pub turn-next-requires-clause-holds : goal.turn-next-requires-clause-holds
turn-next-requires-clause-holds g c n is = ap (is_held (held_by c.loop.pass.seat)) (eqb-true n c.args.number is) ∙ c.loop.invariant.1

pub loop-preserved : goal.loop-preserved
loop-preserved g c =
    let came = c.turn-next.ensures.turn in
    let held = held_by c.loop.pass.seat in
    let mine = found (map.get held c.args.number) c.loop.invariant.1 in
    let there : is_held came.after.counts c.args.number ≡ true = came.did c.args.number mine.0 (came.knew.1 c.args.number mine.0 mine.1) in (
      c.turn-next.ensures.cell ∙ c.loop.invariant.0,
      ap (λ m. is_held m c.args.number) came.holds ∙ still_held held came.before.counts came.after.counts c.args.number c.loop.invariant.1 there,
    )

use Rattle.std.proofs.Common.{◌∙◌, ap, sym, arith, None}
use mathlib.Core.Option.{some-injective}
use Rattle.turn_cell.proofs.Keeping.{shut_keeps, none_left}
use Rattle.turn_cell.proofs.cell.TurnCell.close.Goals as goal

pub load-requires : goal.load-requires
load-requires g c =
    let took = c.take-seat.ensures.took in (
      c.take-seat.ensures.cell ∙ c.requires.cell,
      omega (arith, c.args.self.counts.0),
      shut_keeps g.S.Turned.history g.S.Turned.parts _ _ c.take-seat.result.0.me (g.S.Turned.history c.take-seat.result.1) (g.S.Turned.parts c.take-seat.result.1) c.args.self.counts.1
          (ap (λ m. m.0.turn) took) (ap (λ m. m.1) took),
    )

-- the slot had no value when the table was closed
pub unreachable-requires : goal.unreachable-requires
unreachable-requires g c =
    let took = c.take-seat.ensures.took in
    let log = g.S.Turned.history c.take-seat.result.1 in
    let all = g.S.Turned.parts c.take-seat.result.1 in
    let shut = c.load.ensures.2 log all (ap (λ m. m.0.turn) took) (ap (λ m. m.1) took) in
    let last = c.close_with-closed.ensures.values.2 in
    let home = none_left g.S.Turned.history g.S.Turned.parts last.0 c.load.new.seat.id c.load.new.seat.me.0 log all last.1.0 last.1.1 (ap (λ m. m.0.turn) shut) in
    c.in_default.not-None (sym (some-injective None c.take-nothing.result (sym (last.4 0 None home) ∙ c.take-nothing.ensures.value)))

use Rattle.std.proofs.Common.{arith, ◌∙◌, ap}
use Rattle.turn_cell.proofs.Keeping.{take_keeps, took_it, waiting, no_items}
use Rattle.turn_cell.proofs.cell.TurnCell.wait.Goals as goal

pub compare_exchange-found-requires : goal.compare_exchange-found-requires
compare_exchange-found-requires g c = let since = c.loop.invariant in (
  since.0 ∙ c.requires,
  omega (arith, c.args.self.now.counts.0),
  take_keeps g.S.Turned.history g.S.Turned.parts _ _ _ (ap (λ m. m.0.turn) since.1 ∙ waiting _ c.args.pass.idle.1),
)

pub returns-then-found-eq-FREE-clause-took : goal.returns-then-found-eq-FREE-clause-took
returns-then-found-eq-FREE-clause-took g c =
    took_it g.S.Turned.history g.S.Turned.parts c.loop.seat.me c.args.pass.seat.me c.compare_exchange-found.new.seat.me c.loop.invariant.1 (no_items _ c.args.pass.idle.0)
    (c.compare_exchange-found.ensures.2.0 c.if-found-eq-FREE.true)

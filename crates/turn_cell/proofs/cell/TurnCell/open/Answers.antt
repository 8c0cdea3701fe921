use Rattle.std.proofs.Common.{arith, ap, []}
use Rattle.std.specs.FinMap as map
use Rattle.turn_cell.proofs.Keeping.{open_keeps, opened_it}
use Rattle.turn_cell.proofs.cell.TurnCell.open.Goals as goal

pub load-requires : goal.load-requires
load-requires g c = (c.requires.cell, omega (arith, c.requires.counts.0), open_keeps g.S.Turned.history g.S.Turned.parts _ _ c.args.seat.me [] map.empty (ap (λ m. m.0.turn) c.requires.first))

pub returns-clause-turn : goal.returns-clause-turn
returns-clause-turn g c = opened_it g.S.Turned.history g.S.Turned.parts 1 c.load.result c.args.seat.me c.load.new.seat.me c.load.ensures.2 c.requires.first

use Rattle.std.proofs.Common.{arith}
use Rattle.turn_cell.proofs.Keeping.{waiting}
use Rattle.turn_cell.proofs.Sharing.{split_keeps}
use Rattle.turn_cell.proofs.cell.TurnCell.cut.Goals as goal

pub split_seat-given-requires : goal.split_seat-given-requires
split_seat-given-requires g c = (
  c.requires.cell,
  omega (arith, c.args.self.now.counts.0),
  split_keeps g.S.Turned.history g.S.Turned.parts c.args.pass.seat.id c.args.pass.seat.me.0 g.N.Numbered.number (waiting _ c.args.pass.idle.1),
)

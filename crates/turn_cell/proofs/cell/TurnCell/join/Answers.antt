use Rattle.std.proofs.Common.{arith, ◌∙◌}
use Rattle.turn_cell.proofs.Keeping.{no_items}
use Rattle.turn_cell.proofs.Sharing.{join_keeps, compare_keeps}
use Rattle.turn_cell.proofs.cell.TurnCell.join.Goals as goal

pub join_seat-requires : goal.join_seat-requires
join_seat-requires g c = (
  c.requires.keep,
  c.requires.gone,
  no_items _ c.args.gone.idle.0,
  omega (arith, c.args.self.now.counts.0),
  join_keeps g.S.Turned.history g.S.Turned.parts c.args.keep.seat.id c.args.keep.seat.me.0 c.args.gone.seat.id c.args.gone.seat.me.0,
)

pub load-requires : goal.load-requires
load-requires g c = (
  c.join_seat.ensures.0 ∙ c.requires.keep,
  omega (arith, c.args.self.now.counts.0),
  compare_keeps g.S.Turned.history g.S.Turned.parts _ _ _,
)

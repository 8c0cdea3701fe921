use Rattle.barrier_core.proofs.RowLaws.{each_row}
use Rattle.barrier_core.proofs.rows.all_have_reached.Goals as goal

pub returns : goal.returns
returns c = each_row c.args.rows.now c.args.stage c.each_has_reached.result c.requires c.each_has_reached.ensures

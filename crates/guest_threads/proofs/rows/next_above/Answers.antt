use Rattle.std.proofs.Common.{refl, sym}
use Rattle.std.specs.Prelude.{Some, None}
use Rattle.views.specs.NumberMap.{is_above}
use Rattle.guest_threads.proofs.RowLaws.{next-number}
use Rattle.guest_threads.proofs.rows.next_above.Goals as goal

pub returns-in_err-row : goal.returns-in_err-row
returns-in_err-row c = next-number c.args.rows.now (is_above c.args.above) None c.from_residual.result c.requires c.in_err-row.ensures (sym c.from_residual.ensures)

pub returns : goal.returns
returns c = next-number c.args.rows.now (is_above c.args.above) (Some c.in_ok-row.row.now) _ c.requires c.in_ok-row.ensures refl

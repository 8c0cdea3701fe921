use Rattle.std.proofs.Common.{◌∙◌, ap}
use Rattle.std.specs.Prelude.{option_map}
use Rattle.guest_threads.specs.Rows.{part_of}
use Rattle.guest_threads.proofs.RowLaws.{row-found}
use Rattle.guest_threads.proofs.rows.row_of.Goals as goal

pub returns : goal.returns
returns c = ap (option_map part_of) c.find_row.ensures ∙ row-found c.args.rows.now c.args.t

use Rattle.std.proofs.Common.{ap, ◌∙◌}
use Rattle.std.specs.Prelude.{option_map}
use Rattle.barrier_core.specs.Rows.{Row}
use Rattle.barrier_core.proofs.RowLaws.{row-found}
use Rattle.barrier_core.proofs.rows.member_of.Goals as goal

pub returns-in_err-row : goal.returns-in_err-row
returns-in_err-row c = c.from_residual.ensures ∙ ap (option_map (λ (row : Row). row.1)) c.in_err-row.ensures ∙ row-found c.args.rows.now c.args.p

pub returns : goal.returns
returns c = ap (option_map (λ (row : Row). row.1)) c.in_ok-row.ensures ∙ row-found c.args.rows.now c.args.p

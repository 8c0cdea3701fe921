use Rattle.std.proofs.Common.{sym, subst}
use Rattle.std.specs.Prelude.{Some, None}
use Rattle.guest_threads.specs.Rows.{IsIndex}
use Rattle.guest_threads.proofs.RowLaws.{index_found, index_none}
use Rattle.guest_threads.proofs.rows.index_of.Goals as goal

pub returns-in_err-row-clause-index : goal.returns-in_err-row-clause-index
returns-in_err-row-clause-index c =
    subst (IsIndex c.args.t c.args.rows.now) (sym c.from_residual.ensures)
    (index_none c.args.rows.now c.args.t c.place_of-place.result None c.requires c.place_of-place.ensures.place (sym c.in_err-row.ensures) (λ same. cc same))

pub returns-then-row-t-clause-index : goal.returns-then-row-t-clause-index
returns-then-row-t-clause-index c =
    index_found c.args.rows.now c.args.t c.place_of-place.result c.in_ok-row.row.now c.place_of-place.ensures.place (sym c.in_ok-row.ensures) c.if-row-t.true

pub returns-else-row-t-clause-index : goal.returns-else-row-t-clause-index
returns-else-row-t-clause-index c =
    index_none c.args.rows.now c.args.t c.place_of-place.result (Some c.in_ok-row.row.now) c.requires c.place_of-place.ensures.place (sym c.in_ok-row.ensures) (λ same. c.if-row-t.false (cc same))

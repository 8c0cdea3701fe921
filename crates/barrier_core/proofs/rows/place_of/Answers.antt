use Rattle.std.proofs.Common.{◌≡◌, length, ◌∙◌, arith, zero-add}
use Rattle.barrier_core.proofs.RowLaws.{no_row, place-here, place-later, place-end}
use Rattle.barrier_core.proofs.rows.place_of.Goals as goal

pub loop-place-init : goal.loop-place-init
loop-place-init c = zero-add _

pub loop-place-preserved : goal.loop-place-preserved
loop-place-preserved c = place-later c.args.rows.now c.args.p c.loop-place.place no_row c.loop-place-test.true c.if-row-p.false c.loop-place.invariant

pub returns-then-row-p-clause-place : goal.returns-then-row-p-clause-place
returns-then-row-p-clause-place c = place-here c.args.rows.now c.args.p c.loop-place.place no_row c.loop-place-test.true c.if-row-p.true c.loop-place.invariant

pub returns-clause-place : goal.returns-clause-place
returns-clause-place c =
    let ends : length c.args.rows.now ≡ c.loop-place.place = omega arith in
    ends ∙ place-end c.args.rows.now c.args.p c.loop-place.place c.loop-place-test.false c.loop-place.invariant

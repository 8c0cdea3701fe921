use Rattle.std.proofs.Common.{◌≡◌, length, ◌∙◌, arith, zero-add}
use Rattle.guest_threads.proofs.RowLaws.{place-here, place-later, place-end}
use Rattle.guest_threads.proofs.rows.place_of.Goals as goal

pub loop-place-init : goal.loop-place-init
loop-place-init c = zero-add _

pub loop-place-preserved : goal.loop-place-preserved
loop-place-preserved c =
    place-later c.args.rows.now c.args.t c.loop-place.place c.index-rows-place.result c.loop-place-test.true c.index-rows-place.is c.if-row-t.false c.loop-place.invariant

pub returns-then-row-t-clause-place : goal.returns-then-row-t-clause-place
returns-then-row-t-clause-place c =
    place-here c.args.rows.now c.args.t c.loop-place.place c.index-rows-place.result c.loop-place-test.true c.index-rows-place.is c.if-row-t.true c.loop-place.invariant

pub returns-clause-place : goal.returns-clause-place
returns-clause-place c =
    let ends : length c.args.rows.now ≡ c.loop-place.place = omega arith in
    ends ∙ place-end c.args.rows.now c.args.t c.loop-place.place c.loop-place-test.false c.loop-place.invariant

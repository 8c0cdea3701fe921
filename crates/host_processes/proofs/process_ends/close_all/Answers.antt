use Rattle.std.proofs.Common.{arith}
use Rattle.host_processes.proofs.LowestCloses.{none_closed, turned, rested, at_most}
use Rattle.host_processes.proofs.process_ends.close_all.Goals as goal

pub loop-init : goal.loop-init
loop-init c g k p whole st paired = none_closed g c.args.kernel.now k p st

pub returns-in_default : goal.returns-in_default
returns-in_default c g k p whole st paired =
    rested g c.loop.kernel k whole p c.args.who paired c.loop.counter (c.loop.invariant g k p whole st paired)
    c.close_lowest.new.kernel c.close_lowest.result c.in_default.is c.close_lowest.ensures.lowest
    c.close_lowest.ensures.none

pub loop-preserved : goal.loop-preserved
loop-preserved c g k p whole st paired =
    turned g c.loop.kernel k whole p c.args.who paired c.loop.counter (c.loop.invariant g k p whole st paired)
    c.close_lowest.new.kernel c.close_lowest.result _ c.in-Some.is c.close_lowest.ensures.lowest
    c.close_lowest.ensures.closed

pub returns : goal.returns
returns c g k p whole st paired =
    let over = c.loop-test.false in
    absurd (at_most g c.loop.kernel k p c.args.who paired c.loop.counter (c.loop.invariant g k p whole st paired)
    (omega (arith, over)))

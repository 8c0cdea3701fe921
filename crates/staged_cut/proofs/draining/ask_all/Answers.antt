use Rattle.std.proofs.Common.{refl}
use Rattle.staged_cut.proofs.Asking.{asking_begun, asking_on, all_suspended}
use Rattle.staged_cut.proofs.draining.ask_all.Goals as goal

pub loop-p-init : goal.loop-p-init
loop-p-init c =
    asking_begun c.args.live.now c.in_ok-barrier.barrier c.ask.new.self c.in_ok-barrier.ensures
    c.ask.ensures.after

pub loop-p-preserved : goal.loop-p-preserved
loop-p-preserved c =
    asking_on c.args.live.now c.loop-p.p-index _ _ c.loop-p.barrier c.reached.new.self c.loop-p-test.true refl
    c.reached.ensures.after c.loop-p.invariant

pub returns : goal.returns
returns c =
    all_suspended c.args.live.now c.loop-p.p-index c.loop-p.barrier c.loop-p-test.false c.loop-p.invariant

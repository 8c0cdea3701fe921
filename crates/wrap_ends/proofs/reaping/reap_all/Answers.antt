use Rattle.std.proofs.Common.{subst, arith}
use Rattle.wrap_ends.specs.Ending.{IsAlone, IsFewer, Reaps}
use Rattle.wrap_ends.proofs.Steps.{IsReapedFor, begun, then_as, reaped_start, reaped_more, reaped_all, too_many}
use Rattle.wrap_ends.proofs.reaping.reap_all.Goals as goal

pub loop-init : goal.loop-init
loop-init c k next_id p w paired alive =
    begun c.args.system.now next_id k p c.args.who (IsReapedFor k p 0) w alive paired (reaped_start k p)

pub returns-then-not-reap_one : goal.returns-then-not-reap_one
returns-then-not-reap_one c k next_id p w paired alive =
    let before = c.loop.invariant k next_id p w paired alive in
    then_as c.loop.system next_id k p c.args.who (IsReapedFor k p c.loop.counter)
    (λ kernel. IsAlone before.kernel kernel p)
    (λ kernel. IsAlone k kernel p) before c.reap_one.new.system
    (subst (Reaps c.reap_one.new.system next_id before.kernel p c.args.who) c.if-not-reap_one.true
    (c.reap_one.ensures before.kernel next_id p before.wrapped before.paired before.alive))
    (λ kernel step. reaped_all k p c.loop.counter before.kernel kernel before.also step)

pub loop-preserved : goal.loop-preserved
loop-preserved c k next_id p w paired alive =
    let before = c.loop.invariant k next_id p w paired alive in
    then_as c.loop.system next_id k p c.args.who (IsReapedFor k p c.loop.counter)
    (λ kernel. IsFewer before.kernel kernel p)
    (IsReapedFor k p _) before c.reap_one.new.system
    (subst (Reaps c.reap_one.new.system next_id before.kernel p c.args.who) c.if-not-reap_one.false
    (c.reap_one.ensures before.kernel next_id p before.wrapped before.paired before.alive))
    (λ kernel step. reaped_more k p c.loop.counter before.kernel kernel before.also step)

pub returns : goal.returns
returns c k next_id p w paired alive =
    let over = c.loop-test.false in
    let before = c.loop.invariant k next_id p w paired alive in
    absurd (too_many _ _ c.loop.counter before.also.few w.stands.kernel.processes.count (omega (arith, over)))

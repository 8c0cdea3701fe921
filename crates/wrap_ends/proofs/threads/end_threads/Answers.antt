use Rattle.std.proofs.Common.{◌+◌, ◌<◌, ◌≤◌, subst, arith}
use Rattle.plain_machine.specs.Kernel.{thread_count}
use Rattle.wrap_ends.specs.Ending.{EndsOne}
use Rattle.wrap_ends.proofs.Steps.{begun, then_as, too_many_threads}
use Rattle.wrap_ends.proofs.ThreadCounts.{few_threads}
use Rattle.wrap_ends.proofs.threads.end_threads.Goals as goal

pub loop-init : goal.loop-init
loop-init c k next_id w paired alive =
    begun c.args.system.now next_id k c.args.p c.args.who
    (λ kernel. thread_count kernel c.args.p + 0 ≤ thread_count k c.args.p) w alive paired (omega arith)

pub returns-then-not-end_one : goal.returns-then-not-end_one
returns-then-not-end_one c k next_id w paired alive =
    let before = c.loop.invariant k next_id w paired alive in
    then_as c.loop.system next_id k c.args.p c.args.who
    (λ kernel. thread_count kernel c.args.p + c.loop.counter ≤ thread_count k c.args.p)
    (λ kernel. thread_count kernel c.args.p ≤ 1) (λ kernel. thread_count kernel c.args.p ≤ 1) before
    c.end_one.new.system
    (subst (EndsOne c.end_one.new.system next_id before.kernel c.args.p c.args.who) c.if-not-end_one.true
    (c.end_one.ensures before.kernel next_id before.wrapped before.paired before.alive))
    (λ kernel step. step)

pub loop-preserved : goal.loop-preserved
loop-preserved c k next_id w paired alive =
    let before = c.loop.invariant k next_id w paired alive in
    then_as c.loop.system next_id k c.args.p c.args.who
    (λ kernel. thread_count kernel c.args.p + c.loop.counter ≤ thread_count k c.args.p)
    (λ kernel. thread_count kernel c.args.p < thread_count before.kernel c.args.p)
    (λ kernel. thread_count kernel c.args.p + (c.loop.counter + 1) ≤ thread_count k c.args.p) before
    c.end_one.new.system
    (subst (EndsOne c.end_one.new.system next_id before.kernel c.args.p c.args.who) c.if-not-end_one.false
    (c.end_one.ensures before.kernel next_id before.wrapped before.paired before.alive))
    (λ kernel less. let so_far = before.also in omega (arith, less, so_far))

pub returns : goal.returns
returns c k next_id w paired alive =
    let over = c.loop-test.false in
    let before = c.loop.invariant k next_id w paired alive in
    absurd (too_many_threads _ _ c.loop.counter before.also (few_threads k c.args.p w.stands.kernel alive)
    (omega (arith, over)))

use Rattle.std.proofs.Common.{◌∙◌}
use Rattle.rebuild_processes.proofs.AllThreads.{walked_none, walked_there, walked_thread, walked_left, walked_more, walked_all, walked_gave, few_threads}
use Rattle.rebuild_processes.proofs.threads.add_threads.Goals as goal

pub loop-t-init : goal.loop-t-init
loop-t-init c =
    walked_none c.args.hosts.now c.args.kernel.now c.args.p c.args.r c.args.process.now c.args.m.now.procs.next
    c.into_iter-t-iterator.result c.own_thread.new.m
    (c.into_iter-t-iterator.ensures.into_iter_gives ∙ c.iter-t-items.ensures) c.own_thread.ensures.made
    c.own_thread.ensures.numbers

pub add_thread-requires-clause-thread : goal.add_thread-requires-clause-thread
add_thread-requires-clause-thread c =
    walked_there c.args.hosts.now c.args.kernel.now c.args.p c.args.r c.args.process.now c.args.m.now.procs.next
    c.loop-t.t-iterator c.next.new.self c.in-Some.t.now c.in-Some.set.now c.in-Some.ensures.steps c.loop-t.m
    c.loop-t.invariant

pub add_thread-requires-clause-made : goal.add_thread-requires-clause-made
add_thread-requires-clause-made c =
    walked_thread c.args.hosts.now c.args.kernel.now c.args.p c.args.r c.args.process.now c.args.m.now.procs.next
    c.loop-t.t-iterator c.next.new.self c.in-Some.t.now c.in-Some.set.now c.in-Some.ensures.steps c.loop-t.m
    c.loop-t.invariant

pub add_thread-requires-clause-left : goal.add_thread-requires-clause-left
add_thread-requires-clause-left c =
    walked_left c.args.hosts.now c.args.kernel.now c.args.p c.args.r c.args.process.now c.args.m.now.procs.next
    c.loop-t.t-iterator c.next.new.self c.in-Some.t.now c.in-Some.set.now c.in-Some.ensures.steps c.loop-t.m
    c.loop-t.invariant
    (few_threads c.args.kernel.now c.requires.whole c.args.p c.args.process.now c.requires.process
    c.requires.live)
    c.requires.left

pub loop-t-preserved : goal.loop-t-preserved
loop-t-preserved c =
    walked_more c.args.hosts.now c.args.kernel.now c.args.p c.args.r c.args.process.now c.args.m.now.procs.next
    c.loop-t.t-iterator c.next.new.self c.in-Some.t.now c.in-Some.set.now c.in-Some.ensures.steps c.loop-t.m
    c.loop-t.invariant c.add_thread.new.m c.in_ok-add_thread.ensures.made c.in_ok-add_thread.ensures.numbers

pub returns-clause-made : goal.returns-clause-made
returns-clause-made c =
    walked_all c.args.hosts.now c.args.kernel.now c.args.p c.args.r c.args.process.now c.args.m.now.procs.next
    c.loop-t.t-iterator c.in-None.ensures.steps.0 c.loop-t.m c.loop-t.invariant c.requires.live

pub returns-clause-numbers : goal.returns-clause-numbers
returns-clause-numbers c =
    walked_gave c.args.hosts.now c.args.kernel.now c.args.p c.args.r c.args.process.now c.args.m.now.procs.next
    c.loop-t.t-iterator c.in-None.ensures.steps.0 c.loop-t.m c.loop-t.invariant
    (few_threads c.args.kernel.now c.requires.whole c.args.p c.args.process.now c.requires.process
    c.requires.live)

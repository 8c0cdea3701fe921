use Rattle.std.proofs.Common.{◌∙◌}
use Rattle.rebuild_processes.proofs.AllProcesses.{rebuilt_none, rebuilt_there, rebuilt_before, rebuilt_left, rebuilt_more, rebuilt_all}
use Rattle.rebuild_processes.proofs.rebuilding.rebuild_processes.Goals as goal

pub loop-p-init : goal.loop-p-init
loop-p-init c =
    rebuilt_none c.args.hosts.now c.args.kernel.now c.requires.hosts c.into_iter-p-iterator.result
    c.in_ok-new.field-0 c.new-2.result (c.into_iter-p-iterator.ensures.into_iter_gives ∙ c.iter-p-items.ensures)
    c.in_ok-new.ensures c.new-2.ensures

pub add_process-requires-clause-process : goal.add_process-requires-clause-process
add_process-requires-clause-process c =
    rebuilt_there c.args.hosts.now c.args.kernel.now c.requires.hosts c.loop-p.p-iterator c.next.new.self
    c.in-Some.p.now c.in-Some.process.now c.in-Some.ensures.steps c.loop-p.m c.loop-p.invariant

pub add_process-requires-clause-before : goal.add_process-requires-clause-before
add_process-requires-clause-before c =
    rebuilt_before c.args.hosts.now c.args.kernel.now c.requires.hosts c.loop-p.p-iterator c.next.new.self
    c.in-Some.p.now c.in-Some.process.now c.in-Some.ensures.steps c.loop-p.m c.loop-p.invariant

pub add_process-requires-clause-left : goal.add_process-requires-clause-left
add_process-requires-clause-left c =
    rebuilt_left c.args.hosts.now c.args.kernel.now c.requires.hosts c.loop-p.p-iterator c.next.new.self
    c.in-Some.p.now c.in-Some.process.now c.in-Some.ensures.steps c.loop-p.m c.loop-p.invariant
    c.requires.whole

pub loop-p-preserved : goal.loop-p-preserved
loop-p-preserved c =
    rebuilt_more c.args.hosts.now c.args.kernel.now c.requires.hosts c.loop-p.p-iterator c.next.new.self
    c.in-Some.p.now c.in-Some.process.now c.in-Some.ensures.steps c.loop-p.m c.loop-p.invariant
    c.add_process.new.m c.in_ok-add_process.ensures.made c.in_ok-add_process.ensures.numbers

pub returns : goal.returns
returns c =
    rebuilt_all c.args.hosts.now c.args.kernel.now c.requires.hosts c.loop-p.p-iterator c.loop-p.m
    c.in-None.ensures.steps.0 c.requires.whole c.loop-p.invariant

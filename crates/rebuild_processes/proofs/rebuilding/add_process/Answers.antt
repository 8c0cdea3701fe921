use Rattle.std.proofs.Common.{sym, ◌∙◌}
use Rattle.std.proofs.lemmas.Result.{IfOk-weaker}
use Rattle.rebuild_processes.proofs.Upwards.{IsUpTo-next, gave_more, left_more}
use Rattle.rebuild_processes.proofs.rebuilding.add_process.Goals as goal

pub fill-requires-clause-left : goal.fill-requires-clause-left
fill-requires-clause-left c =
    left_more 1 64 c.args.m.now.procs.next c.start.new.m.procs.next
    (c.in_ok-r.ensures.begun.nodes ∙ sym c.requires.before.nodes) c.in_ok-r.ensures.numbers c.requires.left

pub returns-clause-made : goal.returns-clause-made
returns-clause-made c =
    IfOk-weaker c.fill.result _ _
    (λ _ at. IsUpTo-next c.args.hosts.now c.args.kernel.now c.args.p c.in_ok-r.r c.args.process.now c.fill.new.m
    c.requires.process at)
    c.fill.ensures.made

pub returns-clause-numbers : goal.returns-clause-numbers
returns-clause-numbers c =
    IfOk-weaker c.fill.result _ _
    (λ _ gave. gave_more 1 64 c.args.m.now.procs.next c.start.new.m.procs.next c.fill.new.m.procs.next
    (c.in_ok-r.ensures.begun.nodes ∙ sym c.requires.before.nodes) c.in_ok-r.ensures.numbers gave)
    c.fill.ensures.numbers

use Rattle.std.proofs.Common.{sym, ap, ◌∙◌}
use Rattle.std.specs.FinMap as map
use Rattle.seen_kernel.specs.Makers.{with_makers}
use Rattle.seen_kernel.proofs.SeenMakers.{makers_on, makers_none, makers_done}
use Rattle.seen_kernel.proofs.makers.seen_makers.Goals as goal

pub loop-p-preserved : goal.loop-p-preserved
loop-p-preserved c =
    ap (λ seen. with_makers c.args.conns.now.makers seen c.next.new.self) c.in_ok-add_maker.ensures.ok
    ∙ makers_on c.args.conns.now.makers c.loop-p.seen
    (with_makers c.args.conns.now.makers map.empty (map.keys c.args.processes.now)) c.in-Some.p.now
    c.loop-p.p-iterator c.next.new.self c.in-Some.ensures.steps c.loop-p.invariant

pub returns : goal.returns
returns c same =
    sym (makers_none c.args.conns.now.makers c.loop-p.seen)
    ∙ sym (ap (with_makers c.args.conns.now.makers c.loop-p.seen) c.in-None.ensures.steps.0)
    ∙ c.loop-p.invariant ∙ makers_done c.args.conns.now.makers c.args.processes.now same

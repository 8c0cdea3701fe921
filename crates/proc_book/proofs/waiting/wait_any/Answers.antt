use Rattle.std.proofs.Common.{◌≡◌, ap, ◌∙◌}
use Rattle.std.specs.FinMap as map
use Rattle.proc_book.specs.declared.waiting.Waiting.TheVariants.{NoChild}
use Rattle.proc_book.proofs.Waits.{wait_onto, wait_onto-none, wait_onto-step, child_before, other_before}
use Rattle.proc_book.proofs.waiting.wait_any.Goals as goal

pub loop-r-init : goal.loop-r-init
loop-r-init c =
    let same = c.into_iter-r-iterator.ensures.into_iter_gives in
    let first : c.into_iter-r-iterator.result.iter ≡ c.rev-r-items.result.iter = λ i. (same i).iter in
    ap (λ es. wait_onto c.args.p es NoChild) (first ∙ c.rev-r-items.ensures.source ∙ c.iter.ensures) ∙ wait_onto-none c.args.p (map.entries c.args.processes.now)

pub loop-r-preserved-then-is_child_of : goal.loop-r-preserved-then-is_child_of
loop-r-preserved-then-is_child_of c =
    wait_onto-step c.args.p c.loop-r.r-iterator.iter c.next.new.self.iter (c.in-Some.r.now, c.in-Some.process.now) c.loop-r.found c.ended_first-found.result _ c.in-Some.ensures.steps
    (child_before c.args.p (c.in-Some.r.now, c.in-Some.process.now) c.loop-r.found c.ended_first-found.result c.is_child_of.result c.is_child_of.ensures c.if-is_child_of.true c.ended_first-found.ensures) c.loop-r.invariant

pub loop-r-preserved : goal.loop-r-preserved
loop-r-preserved c =
    wait_onto-step c.args.p c.loop-r.r-iterator.iter c.next.new.self.iter (c.in-Some.r.now, c.in-Some.process.now) c.loop-r.found c.loop-r.found _ c.in-Some.ensures.steps
    (other_before c.args.p (c.in-Some.r.now, c.in-Some.process.now) c.loop-r.found c.is_child_of.result c.is_child_of.ensures c.if-is_child_of.false) c.loop-r.invariant

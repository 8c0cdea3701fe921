use Rattle.std.proofs.Common.{◌≡◌, ap, ◌∙◌}
use Rattle.std.specs.FinMap as map
use Rattle.plain_tables.specs.declared.waiting.Waiting.TheVariants.{NoChild}
use Rattle.plain_tables.proofs.WaitOrder.{wait_onto, wait_onto-none, wait_onto-step, child_before, other_before}
use Rattle.plain_tables.proofs.waiting.wait_any.Goals as goal

pub loop-q-init : goal.loop-q-init
loop-q-init c =
    let same = c.into_iter-q-iterator.ensures.into_iter_gives in
    let first : c.into_iter-q-iterator.result.iter ≡ c.rev-q-items.result.iter = λ i. (same i).iter in
    ap (λ es. wait_onto c.args.p es NoChild) (first ∙ c.rev-q-items.ensures.source ∙ c.iter.ensures) ∙ wait_onto-none c.args.p (map.entries c.args.processes.now)

pub loop-q-preserved-then-is_child_of : goal.loop-q-preserved-then-is_child_of
loop-q-preserved-then-is_child_of c =
    wait_onto-step c.args.p c.loop-q.q-iterator.iter c.next.new.self.iter (c.in-Some.q.now, c.in-Some.process.now) c.loop-q.found c.ended_first-found.result _ c.in-Some.ensures.steps
    (child_before c.args.p (c.in-Some.q.now, c.in-Some.process.now) c.loop-q.found c.ended_first-found.result c.is_child_of.result c.is_child_of.ensures c.if-is_child_of.true c.ended_first-found.ensures) c.loop-q.invariant

pub loop-q-preserved : goal.loop-q-preserved
loop-q-preserved c =
    wait_onto-step c.args.p c.loop-q.q-iterator.iter c.next.new.self.iter (c.in-Some.q.now, c.in-Some.process.now) c.loop-q.found c.loop-q.found _ c.in-Some.ensures.steps
    (other_before c.args.p (c.in-Some.q.now, c.in-Some.process.now) c.loop-q.found c.is_child_of.result c.is_child_of.ensures c.if-is_child_of.false) c.loop-q.invariant

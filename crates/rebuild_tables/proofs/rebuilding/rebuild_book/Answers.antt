use Rattle.std.proofs.Common.{◌∙◌}
use Rattle.rebuild_tables.proofs.Left.{begun, first_there, first_unused, next, finished}
use Rattle.rebuild_tables.proofs.Whole.{all_rebuilt}
use Rattle.rebuild_tables.proofs.rebuilding.rebuild_book.Goals as goal

pub loop-at-init : goal.loop-at-init
loop-at-init c =
    begun c.args.ids.now c.args.kernel.now.descriptors c.args.kernel.now.descriptions
    c.into_iter-at-iterator.result c.new-book.result
    (c.into_iter-at-iterator.ensures.into_iter_gives ∙ c.iter-at-items.ensures) c.new-book.ensures

pub place-requires-clause-descriptor : goal.place-requires-clause-descriptor
place-requires-clause-descriptor c =
    first_there c.args.ids.now c.args.kernel.now.descriptors c.args.kernel.now.descriptions
    c.loop-at.at-iterator c.loop-at.book c.loop-at.invariant c.in-Some.at.now c.in-Some.descriptor.now
    c.next.new.self c.in-Some.ensures.steps

pub place-requires-clause-free : goal.place-requires-clause-free
place-requires-clause-free c =
    first_unused c.args.ids.now c.args.kernel.now.descriptors c.args.kernel.now.descriptions
    c.loop-at.at-iterator c.loop-at.book c.loop-at.invariant c.in-Some.at.now c.in-Some.descriptor.now
    c.next.new.self c.in-Some.ensures.steps

pub loop-at-preserved : goal.loop-at-preserved
loop-at-preserved c =
    next c.args.ids.now c.args.kernel.now.descriptors c.args.kernel.now.descriptions
    c.loop-at.at-iterator c.loop-at.book c.loop-at.invariant c.in-Some.at.now c.in-Some.descriptor.now
    c.next.new.self c.in-Some.ensures.steps c.place.new.book c.in_ok-place.ensures.placed

pub returns : goal.returns
returns c =
    let kernel = c.args.kernel.now in
    all_rebuilt kernel c.requires.whole c.args.ids.now c.loop-at.book
    (finished c.args.ids.now kernel.descriptors kernel.descriptions c.loop-at.at-iterator c.loop-at.book
    c.in-None.ensures.steps.0 c.loop-at.invariant)

use Rattle.cut_stages.proofs.Filling.{lists_drained}
use Rattle.cut_stages.proofs.drained.DrainedSet.begin.Goals as goal

pub invariant_of-result : goal.invariant_of-result
invariant_of-result c =
    lists_drained c.args.base.system c.args.base.next_id c.args.base.stood.kernel c.args.base.owners
    c.args.ends.items
    c.args.drain c.requires.draining c.finish-drained.result.0.lists c.finish-drained.result.1
    c.finish-drained.ensures.lists
    c.finish-drained.ensures.given c.finish-drained.ensures.drained c.finish-drained.ensures.whole
    c.finish-drained.ensures.names c.finish-drained.ensures.kept

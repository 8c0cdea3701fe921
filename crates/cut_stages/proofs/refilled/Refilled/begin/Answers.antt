use Rattle.cut_stages.proofs.Filling.{all_filled}
use Rattle.cut_stages.proofs.refilled.Refilled.begin.Goals as goal

pub invariant_of-result : goal.invariant_of-result
invariant_of-result c =
    all_filled c.args.base.system c.args.base.next_id c.args.base.stood.kernel c.args.base.owners
    c.args.refill
    c.requires.filling c.finish.ensures.back

use Rattle.std.proofs.Common.{◌∙◌}
use Rattle.plain_tables.proofs.SharedDescriptors.{shared_next}
use Rattle.plain_tables.proofs.forks.share_below.Goals as goal

pub loop-fd-preserved : goal.loop-fd-preserved
loop-fd-preserved c = c.in_ok-share_at.ensures ∙ shared_next c.args.p c.args.child c.args.descriptors.now c.loop-fd.fd c.loop-fd.descriptors c.loop-fd.invariant

use Rattle.std.proofs.Common.{subst}
use Rattle.ckpt_stages.specs.Faults.{FindsUnsupported}
use Rattle.ckpt_stages.proofs.Supported.{none_refused}
use Rattle.ckpt_stages.proofs.suspended.Suspended.enter.Goals as goal

pub suspend-requires-clause-supported : goal.suspend-requires-clause-supported
suspend-requires-clause-supported c =
    none_refused c.args.stood.kernel c.requires.stands.kernel
    (subst (FindsUnsupported c.args.stood.kernel) c.in_default.is
    (c.first_unsupported.ensures c.args.stood.kernel c.args.next_id c.requires))

pub returns-clause-supported : goal.returns-clause-supported
returns-clause-supported c =
    subst (FindsUnsupported c.args.stood.kernel) c.in_default.is
    (c.first_unsupported.ensures c.args.stood.kernel c.args.next_id c.requires)

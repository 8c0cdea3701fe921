use Rattle.std.proofs.Common.{◌∙◌}
use Rattle.drain_core.proofs.OneStep.{nothing_received}
use Rattle.drain_core.proofs.notes.read_bytes.Goals as goal

pub returns-in_default-clause-net : goal.returns-in_default-clause-net
returns-in_default-clause-net c = c.in_default.ensures.err ∙ nothing_received c.args.net.now c.args.notes.now.dir

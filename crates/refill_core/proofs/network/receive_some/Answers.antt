use Rattle.std.proofs.Common.{◌∙◌}
use Rattle.refill_core.proofs.OneCall.{nothing_received}
use Rattle.refill_core.proofs.network.receive_some.Goals as goal

pub returns-in_default-clause-net : goal.returns-in_default-clause-net
returns-in_default-clause-net c = c.in_default.ensures.err ∙ nothing_received c.args.net.now c.args.d

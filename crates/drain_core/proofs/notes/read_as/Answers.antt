use Rattle.drain_core.proofs.OneStep.{nothing_received}
use Rattle.drain_core.proofs.notes.read_as.Goals as goal

pub returns-then-not-is_agent-clause-net : goal.returns-then-not-is_agent-clause-net
returns-then-not-is_agent-clause-net c = nothing_received c.args.net.now c.args.notes.now.dir

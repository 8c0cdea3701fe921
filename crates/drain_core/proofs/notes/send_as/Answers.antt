use Rattle.drain_core.proofs.OneStep.{nothing_sent}
use Rattle.drain_core.proofs.notes.send_as.Goals as goal

pub returns-then-not-is_agent-clause-net : goal.returns-then-not-is_agent-clause-net
returns-then-not-is_agent-clause-net c = nothing_sent c.args.net.now c.args.notes.now.dir c.args.notes.now

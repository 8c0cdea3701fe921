use Rattle.wire_net.proofs.Streams.{stream-send, stream-receive, whereabouts-move, whereabouts-none}
use Rattle.wire_net.proofs.laws.net_laws.Goals as goal

pub returns-clause-sends : goal.returns-clause-sends
returns-clause-sends c = stream-send

pub returns-clause-receives : goal.returns-clause-receives
returns-clause-receives c = stream-receive

pub returns-clause-moves : goal.returns-clause-moves
returns-clause-moves c = whereabouts-move

pub returns-clause-queues : goal.returns-clause-queues
returns-clause-queues c = whereabouts-none

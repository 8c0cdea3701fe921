use Rattle.rebuild_system.proofs.Holding.{at_holders}
use Rattle.rebuild_system.proofs.accepting.accepting_node.Goals as goal

pub returns-in-Pair : goal.returns-in-Pair
returns-in-Pair c =
    at_holders c.args.hosts.now c.args.kernel.now c.args.id c.args.channel.now.kind c.node_at-in-Pair.result
    c.holders_host.result c.in-Pair.is c.node_at-in-Pair.ensures.node c.holders_host.ensures.host

use Rattle.std.proofs.Common.{ap}
use Rattle.std.specs.Prelude.{is_some}
use Rattle.rebuild_system.proofs.Listened.{host_below}
use Rattle.rebuild_system.proofs.Made.{HasListener-made}
use Rattle.rebuild_system.proofs.listeners.add_listener.Goals as goal

pub node_at-requires-clause-host : goal.node_at-requires-clause-host
node_at-requires-clause-host c =
    host_below c.args.kernel.now c.requires.whole c.args.a (ap is_some c.requires.listener)

pub returns-clause-made : goal.returns-clause-made
returns-clause-made c =
    HasListener-made c.args.hosts.now c.args.kernel.now c.args.a c.args.listening.now c.node_at.result
    c.as_slice.result.now c.args.ids.now c.add_addr.new.self c.args.net.now c.listen.new.self
    c.fill_queue.new.net c.args.directory.now c.fill_queue.new.directory c.in-Ok.at
    c.node_at.ensures.node c.as_slice.ensures c.in-Ok.ensures.port c.in-Ok.ensures.ok
    c.in-Ok-add_addr.ensures.ok c.in_ok-fill_queue.ensures.base c.in_ok-fill_queue.ensures.listeners
    c.in_ok-fill_queue.ensures.channels c.in_ok-fill_queue.ensures.found

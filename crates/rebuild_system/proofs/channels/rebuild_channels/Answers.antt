use Rattle.std.proofs.Common.{ap}
use Rattle.wire_net.specs.Networks.{Network}
use Rattle.rebuild_system.proofs.Listened.{IsListened-none}
use Rattle.rebuild_system.proofs.WholeNet.{IsNet-whole}
use Rattle.rebuild_system.proofs.channels.rebuild_channels.Goals as goal

pub add_listeners-requires-clause-before : goal.add_listeners-requires-clause-before
add_listeners-requires-clause-before c =
    IsListened-none c.args.hosts.now c.args.kernel.now c.args.ids.now c.in_ok-net.net
    (ap (λ (n : Network). n.port_base) c.in_ok-net.ensures) c.requires.unpaired.0 c.requires.unpaired.1
    (ap (λ (n : Network). n.listeners) c.in_ok-net.ensures)
    (ap (λ (n : Network). n.channels) c.in_ok-net.ensures)

pub returns-clause-net : goal.returns-clause-net
returns-clause-net c =
    IsNet-whole c.args.hosts.now c.args.kernel.now c.requires.whole c.add_listeners.new.ids
    c.add_listeners.new.net c.add_channels.new.net c.in_ok-add_listeners.ensures.made
    c.whole.ensures.places c.in_ok-add_channels.ensures.kept c.in_ok-add_channels.ensures.made

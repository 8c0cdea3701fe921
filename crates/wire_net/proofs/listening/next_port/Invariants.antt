use Rattle.wire_channels.specs.Listeners.{AreUsed}
use Rattle.wire_net.proofs.listening.next_port.Given as goal

abbrev pub invariant-loop-port : goal.invariant-loop-port
invariant-loop-port l = AreUsed l.listeners l.node l.base l.port

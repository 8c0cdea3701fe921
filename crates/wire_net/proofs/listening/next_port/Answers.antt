use Rattle.std.proofs.Common.{arith}
use Rattle.wire_net.proofs.PortsInUse.{used-none, used-more, used-all, next_port-found}
use Rattle.wire_net.proofs.listening.next_port.Goals as goal

pub loop-port-init : goal.loop-port-init
loop-port-init c = used-none c.args.listeners.now c.args.node c.args.base

pub loop-port-preserved : goal.loop-port-preserved
loop-port-preserved c =
    used-more c.args.listeners.now c.args.node c.args.base c.loop-port.port c.contains_key.result c.loop-port.invariant c.contains_key.ensures c.if-not-contains_key.false

pub returns-then-not-contains_key : goal.returns-then-not-contains_key
returns-then-not-contains_key c =
    next_port-found c.args.listeners.now c.args.node c.args.base c.loop-port.port c.contains_key.result c.loop-port.invariant c.contains_key.ensures c.if-not-contains_key.true (omega arith) (omega arith)

pub returns : goal.returns
returns c = used-all c.args.listeners.now c.args.node c.args.base c.loop-port.port _ c.loop-port.invariant (omega arith)

use Rattle.std.proofs.Common.{sym, ◌∙◌, arith}
use Rattle.wrap_names.proofs.Searches.{one_further, found_port, no_automatic}
use Rattle.wrap_names.proofs.ports.automatic_port.Goals as goal

pub returns-then-not-is_port_used : goal.returns-then-not-is_port_used
returns-then-not-is_port_used c k next_id w =
    sym (found_port k c.args.host c.loop-port.port (c.loop-port.invariant k next_id w) (omega arith)
    (sym (c.is_port_used.ensures k next_id w) ∙ c.if-not-is_port_used.true))

pub loop-port-preserved : goal.loop-port-preserved
loop-port-preserved c k next_id w =
    one_further k c.args.host c.loop-port.port (c.loop-port.invariant k next_id w) (omega arith)
    (sym (c.is_port_used.ensures k next_id w) ∙ c.if-not-is_port_used.false)

pub returns : goal.returns
returns c k next_id w =
    sym (no_automatic k c.args.host c.loop-port.port (c.loop-port.invariant k next_id w) (omega arith))

use Rattle.std.proofs.Common.{sym, ◌∙◌}
use Rattle.wrap_names.proofs.Searches.{any_some, any_none, port_taken, port_free}
use Rattle.wrap_names.proofs.ports.port_for.Goals as goal

pub returns-in-Some : goal.returns-in-Some
returns-in-Some c k next_id w =
    any_some k c.args.host c.args.port c.if-port-eq0.true c.in-Some.port
    (sym (c.automatic_port.ensures k next_id w) ∙ c.in-Some.is)

pub returns-in-None : goal.returns-in-None
returns-in-None c k next_id w =
    any_none k c.args.host c.args.port c.if-port-eq0.true
    (sym (c.automatic_port.ensures k next_id w) ∙ c.in-None.is)

pub returns-then-is_port_used : goal.returns-then-is_port_used
returns-then-is_port_used c k next_id w =
    port_taken k c.args.host c.args.port c.if-port-eq0.false
    (sym (c.is_port_used.ensures k next_id w) ∙ c.if-is_port_used.true)

pub returns : goal.returns
returns c k next_id w =
    port_free k c.args.host c.args.port c.if-port-eq0.false
    (sym (c.is_port_used.ensures k next_id w) ∙ c.if-is_port_used.false)

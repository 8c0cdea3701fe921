use Rattle.std.proofs.Common.{sym, ◌∙◌}
use Rattle.wrap_names.proofs.Searches.{bound_already, bound_some, bound_none}
use Rattle.wrap_names.proofs.ports.bound_or.Goals as goal

pub returns-then-address-ne0 : goal.returns-then-address-ne0
returns-then-address-ne0 c k next_id w = bound_already k c.args.address c.args.error c.if-address-ne0.true

pub returns-in-Some : goal.returns-in-Some
returns-in-Some c k next_id w =
    bound_some k c.args.address c.args.error c.if-address-ne0.false c.in-Some.port
    (sym (c.automatic_port.ensures k next_id w) ∙ c.in-Some.is)

pub returns-in-None : goal.returns-in-None
returns-in-None c k next_id w =
    bound_none k c.args.address c.args.error c.if-address-ne0.false
    (sym (c.automatic_port.ensures k next_id w) ∙ c.in-None.is)

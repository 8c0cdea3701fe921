use Rattle.std.proofs.Common.{sym, ◌∙◌}
use Rattle.host_kernel.proofs.MessageRows.{end_there, first_none, first_taken}
use Rattle.host_kernel.proofs.messages.take_first.Goals as goal

pub returns-in_default : goal.returns-in_default
returns-in_default c g k st =
    first_none g c.args.kernel.now k st c.args.id (sym c.end_at.ensures ∙ c.in_default.is)

pub returns : goal.returns
returns c g k st =
    first_taken g c.args.kernel.now k st c.args.id c.in-Some.end
    (end_there c.args.kernel.now c.args.id c.in-Some.end (sym c.end_at.ensures ∙ c.in-Some.is))
    c.receive.result c.receive.ensures.message c.receive.new.self c.receive.ensures.rest

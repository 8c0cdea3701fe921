use Rattle.std.proofs.Common.{sym, ap, ◌∙◌}
use Rattle.std.specs.Prelude.{is_some}
use Rattle.host_kernel.proofs.MessageRows.{open_told}
use Rattle.host_kernel.proofs.messages.is_open_end.Goals as goal

pub returns-in-Some : goal.returns-in-Some
returns-in-Some c g k st =
    sym (ap is_some (sym c.waiting.ensures ∙ c.in-Some.is)) ∙ open_told g c.args.kernel.now k st c.args.id

pub returns-in-None : goal.returns-in-None
returns-in-None c g k st =
    sym (ap is_some (sym c.waiting.ensures ∙ c.in-None.is)) ∙ open_told g c.args.kernel.now k st c.args.id

use Rattle.std.proofs.Common.{sym, ap, ◌∙◌}
use Rattle.std.specs.Prelude.{unwrap_or}
use Rattle.host_kernel.proofs.MessageRows.{count_told}
use Rattle.host_kernel.proofs.messages.message_count.Goals as goal

pub returns-in-Some : goal.returns-in-Some
returns-in-Some c g k st =
    sym (ap (λ o. unwrap_or o 0) (sym c.waiting.ensures ∙ c.in-Some.is))
    ∙ count_told g c.args.kernel.now k st c.args.id

pub returns-in-None : goal.returns-in-None
returns-in-None c g k st =
    sym (ap (λ o. unwrap_or o 0) (sym c.waiting.ensures ∙ c.in-None.is))
    ∙ count_told g c.args.kernel.now k st c.args.id

use Rattle.std.proofs.Common.{◌<◌, ◌≤◌, ℕ, length, ap, ◌∙◌, subst}
use Rattle.std.specs.Prelude.{not}
use Rattle.plain_machine.specs.Transfers.Datagrams.{messages_at, is_open_end}
use Rattle.host_kernel.proofs.MessageTests.{waits_there, none_waits}
use Rattle.host_kernel.proofs.messages.has_message.Goals as goal

pub returns-then-message_count-gt0 : goal.returns-then-message_count-gt0
returns-then-message_count-gt0 c g k st =
    waits_there (length (messages_at k c.args.id)) (not (is_open_end k c.args.peer))
    (subst (λ (n : ℕ). 0 < n) (c.message_count.ensures g k st) c.if-message_count-gt0.true)

pub returns : goal.returns
returns c g k st =
    ap not (c.is_open_end.ensures g k st)
    ∙ none_waits (length (messages_at k c.args.id)) (not (is_open_end k c.args.peer))
    (subst (λ (n : ℕ). n ≤ 0) (c.message_count.ensures g k st) c.if-message_count-gt0.false)

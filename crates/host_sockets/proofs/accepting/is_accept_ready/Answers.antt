use Rattle.std.proofs.Common.{true, false, Ok, ap, ◌∙◌}
use Rattle.plain_machine.specs.SocketWords.{is_settled}
use Rattle.host_sockets.specs.Tests.{tried_or_waits}
use Rattle.host_sockets.proofs.AcceptRows.{ready_accepts}
use Rattle.host_sockets.proofs.accepting.is_accept_ready.Goals as goal

pub returns-in-Err : goal.returns-in-Err
returns-in-Err c g k p whole st paired named =
    ready_accepts g c.args.kernel.now k st whole p c.args.who paired c.args.fd c.whole.ensures c.args.of_pipe
    c.args.id named true (ap is_settled c.in-Err.ensures.found)

pub returns-in-Ok-None : goal.returns-in-Ok-None
returns-in-Ok-None c g k p whole st paired named =
    ready_accepts g c.args.kernel.now k st whole p c.args.who paired c.args.fd c.whole.ensures c.args.of_pipe
    c.args.id named false
    (ap is_settled (c.in-Ok-None.ensures.found ∙ ap (λ o. tried_or_waits (Ok o)) c.in-Ok-None.field-0-is))

pub returns-in-Ok-Some : goal.returns-in-Ok-Some
returns-in-Ok-Some c g k p whole st paired named =
    ready_accepts g c.args.kernel.now k st whole p c.args.who paired c.args.fd c.whole.ensures c.args.of_pipe
    c.args.id named true
    (ap is_settled (c.in-Ok-Some.ensures.found ∙ ap (λ o. tried_or_waits (Ok o)) c.in-Ok-Some.field-0-is))

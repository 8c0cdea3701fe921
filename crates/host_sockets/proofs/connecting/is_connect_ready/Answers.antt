use Rattle.std.proofs.Common.{true, false, Ok, ap, ◌∙◌}
use Rattle.plain_machine.specs.SocketWords.{is_settled}
use Rattle.host_sockets.specs.Tests.{tried_or_waits}
use Rattle.host_sockets.proofs.ConnectRows.{ready_connects}
use Rattle.host_sockets.proofs.connecting.is_connect_ready.Goals as goal

pub returns-in-Err : goal.returns-in-Err
returns-in-Err c g k p whole st paired length x named =
    ready_connects g c.args.kernel.now k st p c.args.who paired c.args.fd c.whole.ensures c.args.of_pipe
    length x
    c.args.to c.args.channel c.args.port_free named true (ap is_settled c.in-Err.ensures.found)

pub returns-in-Ok-None : goal.returns-in-Ok-None
returns-in-Ok-None c g k p whole st paired length x named =
    ready_connects g c.args.kernel.now k st p c.args.who paired c.args.fd c.whole.ensures c.args.of_pipe
    length x
    c.args.to c.args.channel c.args.port_free named false
    (ap is_settled (c.in-Ok-None.ensures.found ∙ ap (λ o. tried_or_waits (Ok o)) c.in-Ok-None.field-0-is))

pub returns-in-Ok-Some : goal.returns-in-Ok-Some
returns-in-Ok-Some c g k p whole st paired length x named =
    ready_connects g c.args.kernel.now k st p c.args.who paired c.args.fd c.whole.ensures c.args.of_pipe
    length x
    c.args.to c.args.channel c.args.port_free named true
    (ap is_settled (c.in-Ok-Some.ensures.found ∙ ap (λ o. tried_or_waits (Ok o)) c.in-Ok-Some.field-0-is))

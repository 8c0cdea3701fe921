use Rattle.std.proofs.Common.{◌≡◌, Some, Ok, ap, ◌∙◌, subst}
use Rattle.std.specs.Prelude.{IfSome}
use Rattle.host_descriptors.specs.OfHostTables.Conditions.{IsNewConn}
use Rattle.host_sockets.specs.declared.connecting.Connecting.{Connecting}
use Rattle.host_sockets.specs.Tests.{tried_or_waits}
use Rattle.host_sockets.proofs.ConnectRows.{unable_connects, waiting_connects, serves_connected}
use Rattle.host_sockets.proofs.connecting.connect.Goals as goal

pub returns-in-Err-clause-ok : goal.returns-in-Err-clause-ok
returns-in-Err-clause-ok c g k p whole st paired length x named =
    unable_connects g c.args.kernel.now k st p c.args.who paired c.args.fd c.whole.ensures c.args.of_pipe
    length x
    c.args.to c.args.channel c.args.port_free named c.in-Err.error c.in-Err.ensures.found

pub returns-in-Ok-None-clause-ok : goal.returns-in-Ok-None-clause-ok
returns-in-Ok-None-clause-ok c g k p whole st paired length x named =
    waiting_connects g c.args.kernel.now k st p c.args.who paired c.args.fd c.whole.ensures c.args.of_pipe
    length x
    c.args.to c.args.channel c.args.port_free named
    (c.in-Ok-None.ensures.found ∙ ap (λ o. tried_or_waits (Ok o)) c.in-Ok-None.field-0-is)

pub returns-in_ok-connect_to-in-Ok-Some-clause-ok : goal.returns-in_ok-connect_to-in-Ok-Some-clause-ok
returns-in_ok-connect_to-in-Ok-Some-clause-ok c g k p whole st paired length x named =
    let y = c.in-Ok-Some.found in
    let is = c.in-Ok-Some.field-0-is in
    let channel_is =
    subst (λ o. IfSome o (λ (f : Connecting). c.args.channel ≡ Some f.conn)) is c.in-Ok-Some.ensures.named in
    serves_connected g c.args.kernel.now k st p c.args.who paired c.args.fd c.whole.ensures c.args.of_pipe
    length x
    c.args.to c.args.channel c.args.port_free named y
    (c.in-Ok-Some.ensures.found ∙ ap (λ o. tried_or_waits (Ok o)) is) channel_is
    (subst (IsNewConn c.args.kernel.now.net) channel_is c.requires.new) c.connect_to.new.kernel
    c.in_ok-connect_to-in-Ok-Some.ensures.ok

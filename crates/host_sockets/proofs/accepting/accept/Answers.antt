use Rattle.std.proofs.Common.{◌≡◌, Some, Ok, ap, ◌∙◌, subst}
use Rattle.std.specs.Prelude.{IfSome}
use Rattle.std.proofs.lemmas.Result.{IfOk-weaker}
use Rattle.host_descriptors.specs.OfHostTables.Conditions.{IsNewDesc}
use Rattle.host_sockets.specs.declared.accepting.Accepting.{Accepting}
use Rattle.host_sockets.specs.Tests.{tried_or_waits, first_in}
use Rattle.host_sockets.proofs.Accepts.{first_there}
use Rattle.host_sockets.proofs.AcceptRows.{unable_accepts, waiting_accepts, taken_accepts}
use Rattle.host_sockets.proofs.accepting.accept.Goals as goal

pub returns-in-Err-clause-ok : goal.returns-in-Err-clause-ok
returns-in-Err-clause-ok c g k p whole st paired x named =
    unable_accepts g c.args.kernel.now k st whole p c.args.who paired c.args.fd c.whole.ensures c.args.of_pipe
    c.args.id named x c.in-Err.error c.in-Err.ensures.found

pub returns-in-Ok-None-clause-ok : goal.returns-in-Ok-None-clause-ok
returns-in-Ok-None-clause-ok c g k p whole st paired x named =
    waiting_accepts g c.args.kernel.now k st whole p c.args.who paired c.args.fd c.whole.ensures
    c.args.of_pipe
    c.args.id named x (c.in-Ok-None.ensures.found ∙ ap (λ o. tried_or_waits (Ok o)) c.in-Ok-None.field-0-is)

pub returns-in-Ok-Some-clause-ok : goal.returns-in-Ok-Some-clause-ok
returns-in-Ok-Some-clause-ok c =
    let y = c.in-Ok-Some.found in
    let is = c.in-Ok-Some.field-0-is in
    let id_is = subst (λ o. IfSome o (λ (f : Accepting). c.args.id ≡ Some f.id)) is
    c.in-Ok-Some.ensures.named in
    let first =
    subst (λ o. IfSome o (λ (f : Accepting). first_in c.args.kernel.now.net f.at ≡ Some f.conn)) is
    c.in-Ok-Some.ensures.first in
    IfOk-weaker c.take_waiting.result _ _ (λ a takes g k p whole st paired x named.
    taken_accepts g c.args.kernel.now k st whole p c.args.who paired c.args.fd c.whole.ensures c.args.of_pipe
    c.args.id named x y (c.in-Ok-Some.ensures.found ∙ ap (λ o. tried_or_waits (Ok o)) is)
    (subst (IsNewDesc c.args.kernel.now.book) id_is c.requires.new)
    (first_there c.args.kernel.now.net y.at y.conn first) c.take_waiting.new.kernel a takes)
    c.take_waiting.ensures.ok

pub take_waiting-requires-clause-first : goal.take_waiting-requires-clause-first
take_waiting-requires-clause-first c =
    subst (λ o. IfSome o (λ (f : Accepting). first_in c.args.kernel.now.net f.at ≡ Some f.conn))
    c.in-Ok-Some.field-0-is c.in-Ok-Some.ensures.first

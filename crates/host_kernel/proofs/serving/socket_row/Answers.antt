use Rattle.std.proofs.Common.{sym, subst}
use Rattle.std.specs.Prelude.{IfOk}
use Rattle.std.proofs.lemmas.Result.{IfOk-weaker}
use Rattle.plain_machine.specs.Serve.{row}
use Rattle.host_tables.specs.Serves.{ServesAttempt}
use Rattle.host_kernel.proofs.UnknownCalls.{unknown_is_refused}
use Rattle.host_kernel.proofs.serving.socket_row.Goals as goal

pub returns-in-Socket-clause-ok : goal.returns-in-Socket-clause-ok
unfolding row
returns-in-Socket-clause-ok c =
    subst (λ q. IfOk c.socket.result (ServesAttempt c.args.kernel.now c.socket.new.kernel c.args.who
    c.args.thread q c.args.transfer.now c.args.transfer.now)) (sym c.in-Socket.is)
    (IfOk-weaker c.socket.result _ _ (λ a serves g k p whole st paired t length there named.
    serves g k p whole st paired c.args.transfer.now named) c.socket.ensures.ok)

pub returns-in-Socketpair-clause-ok : goal.returns-in-Socketpair-clause-ok
unfolding row
returns-in-Socketpair-clause-ok c =
    subst (λ q. IfOk c.socketpair.result (ServesAttempt c.args.kernel.now c.socketpair.new.kernel c.args.who
    c.args.thread q c.args.transfer.now c.socketpair.new.transfer)) (sym c.in-Socketpair.is)
    (IfOk-weaker c.socketpair.result _ _ (λ a serves g k p whole st paired t length there named.
    serves g k p whole st paired named.0 named.1) c.socketpair.ensures.ok)

pub returns-in-Listen-clause-ok : goal.returns-in-Listen-clause-ok
unfolding row
returns-in-Listen-clause-ok c =
    subst (λ q. IfOk c.listen.result (ServesAttempt c.args.kernel.now c.listen.new.kernel c.args.who
    c.args.thread q c.args.transfer.now c.args.transfer.now)) (sym c.in-Listen.is)
    (IfOk-weaker c.listen.result _ _ (λ a serves g k p whole st paired t length there named.
    serves g k p whole st paired c.args.transfer.now named) c.listen.ensures.ok)

pub returns-in-Accept-clause-ok : goal.returns-in-Accept-clause-ok
unfolding row
returns-in-Accept-clause-ok c =
    subst (λ q. IfOk c.accept.result (ServesAttempt c.args.kernel.now c.accept.new.kernel c.args.who
    c.args.thread q c.args.transfer.now c.args.transfer.now)) (sym c.in-Accept.is)
    (IfOk-weaker c.accept.result _ _ (λ a serves g k p whole st paired t length there named.
    serves g k p whole st paired c.args.transfer.now named) c.accept.ensures.ok)

pub returns-in-Connect-clause-ok : goal.returns-in-Connect-clause-ok
unfolding row
returns-in-Connect-clause-ok c =
    subst (λ q. IfOk c.connect.result (ServesAttempt c.args.kernel.now c.connect.new.kernel c.args.who
    c.args.thread q c.args.transfer.now c.args.transfer.now)) (sym c.in-Connect.is)
    (IfOk-weaker c.connect.result _ _ (λ a serves g k p whole st paired t length there named.
    serves g k p whole st paired length c.args.transfer.now named) c.connect.ensures.ok)

pub returns-in-Setsockopt-clause-ok : goal.returns-in-Setsockopt-clause-ok
unfolding row
returns-in-Setsockopt-clause-ok c =
    subst (λ q. ServesAttempt c.args.kernel.now c.args.kernel.now c.args.who
    c.args.thread q c.args.transfer.now c.args.transfer.now c.setsockopt.result) (sym c.in-Setsockopt.is)
    (λ g k p whole st paired t length there named.
    c.setsockopt.ensures g k p whole st paired c.args.transfer.now named)

pub returns-in-Shutdown-clause-ok : goal.returns-in-Shutdown-clause-ok
unfolding row
returns-in-Shutdown-clause-ok c =
    subst (λ q. ServesAttempt c.args.kernel.now c.shutdown.new.kernel c.args.who
    c.args.thread q c.args.transfer.now c.args.transfer.now c.shutdown.result) (sym c.in-Shutdown.is)
    (λ g k p whole st paired t length there named.
    c.shutdown.ensures.row g k p whole st paired c.args.transfer.now named)

pub returns-in_default-clause-ok : goal.returns-in_default-clause-ok
returns-in_default-clause-ok c =
    unknown_is_refused c.args.kernel.now c.args.who c.args.thread c.args.request.now c.args.transfer.now
    c.requires.sockets (record {
      socket = c.in_default.not-Socket;
      socketpair = c.in_default.not-Socketpair;
      listen = c.in_default.not-Listen;
      accept = c.in_default.not-Accept;
      connect = c.in_default.not-Connect;
      setsockopt = c.in_default.not-Setsockopt;
      shutdown = c.in_default.not-Shutdown;
    })

use Rattle.std.proofs.Common.{sym, subst}
use Rattle.std.specs.Prelude.{IfOk}
use Rattle.std.proofs.lemmas.Result.{IfOk-weaker}
use Rattle.plain_machine.specs.Serve.{row}
use Rattle.host_tables.specs.Serves.{ServesAttempt}
use Rattle.host_kernel.proofs.serving.row.Goals as goal

pub returns-in-Eventfd2-clause-ok : goal.returns-in-Eventfd2-clause-ok
unfolding row
returns-in-Eventfd2-clause-ok c =
    subst (λ q. IfOk c.eventfd2.result (ServesAttempt c.args.kernel.now c.eventfd2.new.kernel c.args.who
    c.args.thread q c.args.transfer.now c.args.transfer.now)) (sym c.in-Eventfd2.is)
    (IfOk-weaker c.eventfd2.result _ _ (λ a serves g k p whole st paired t length there named.
    serves g k p whole st paired c.args.transfer.now named) c.eventfd2.ensures.ok)

pub returns-in-Dup-clause-ok : goal.returns-in-Dup-clause-ok
unfolding row
returns-in-Dup-clause-ok c =
    subst (λ q. IfOk c.dup.result (ServesAttempt c.args.kernel.now c.dup.new.kernel c.args.who
    c.args.thread q c.args.transfer.now c.args.transfer.now)) (sym c.in-Dup.is)
    (IfOk-weaker c.dup.result _ _ (λ a serves g k p whole st paired t length there named.
    serves g k p whole st paired c.args.transfer.now) c.dup.ensures.ok)

pub returns-in_ok-dup3-in-Dup3-clause-ok : goal.returns-in_ok-dup3-in-Dup3-clause-ok
unfolding row
returns-in_ok-dup3-in-Dup3-clause-ok c =
    subst (λ q. ServesAttempt c.args.kernel.now c.dup3.new.kernel c.args.who
    c.args.thread q c.args.transfer.now c.args.transfer.now c.in_ok-dup3-in-Dup3.field-0.answer)
    (sym c.in-Dup3.is)
    (λ g k p whole st paired t length there named.
    c.in_ok-dup3-in-Dup3.ensures.ok g k p whole st paired c.args.transfer.now)

pub returns-in-Fcntl-clause-ok : goal.returns-in-Fcntl-clause-ok
unfolding row
returns-in-Fcntl-clause-ok c =
    subst (λ q. IfOk c.fcntl.result (ServesAttempt c.args.kernel.now c.fcntl.new.kernel c.args.who
    c.args.thread q c.args.transfer.now c.args.transfer.now)) (sym c.in-Fcntl.is)
    (IfOk-weaker c.fcntl.result _ _ (λ a serves g k p whole st paired t length there named.
    serves g k p whole st paired c.args.transfer.now named) c.fcntl.ensures.ok)

pub returns-in-Close-clause-ok : goal.returns-in-Close-clause-ok
unfolding row
returns-in-Close-clause-ok c =
    subst (λ q. ServesAttempt c.args.kernel.now c.close.new.kernel c.args.who
    c.args.thread q c.args.transfer.now c.args.transfer.now c.close.result.0) (sym c.in-Close.is)
    (λ g k p whole st paired t length there named.
    c.close.ensures.row g k p whole st paired c.args.transfer.now)

pub returns-in-Pipe2-clause-ok : goal.returns-in-Pipe2-clause-ok
unfolding row
returns-in-Pipe2-clause-ok c =
    subst (λ q. IfOk c.pipe2.result (ServesAttempt c.args.kernel.now c.pipe2.new.kernel c.args.who
    c.args.thread q c.args.transfer.now c.pipe2.new.transfer)) (sym c.in-Pipe2.is)
    (IfOk-weaker c.pipe2.result _ _ (λ a serves g k p whole st paired t length there named.
    serves g k p whole st paired named) c.pipe2.ensures.ok)

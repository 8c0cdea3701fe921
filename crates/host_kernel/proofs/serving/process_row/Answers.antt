use Rattle.std.proofs.Common.{sym, subst}
use Rattle.std.specs.Prelude.{IfOk}
use Rattle.std.proofs.lemmas.Result.{IfOk-weaker}
use Rattle.plain_machine.specs.Serve.{row}
use Rattle.host_tables.specs.Serves.{ServesAttempt}
use Rattle.host_kernel.proofs.serving.process_row.Goals as goal

pub returns-in-Exit-clause-ok : goal.returns-in-Exit-clause-ok
unfolding row
returns-in-Exit-clause-ok c =
    subst (λ q. ServesAttempt c.args.kernel.now c.exit.new.kernel c.args.who
    c.args.thread q c.args.transfer.now c.args.transfer.now c.exit.result) (sym c.in-Exit.is)
    (λ g k p whole st paired t length there named.
    c.exit.ensures g k p whole st paired t c.args.transfer.now there)

pub returns-in-ExitGroup-clause-ok : goal.returns-in-ExitGroup-clause-ok
unfolding row
returns-in-ExitGroup-clause-ok c =
    subst (λ q. ServesAttempt c.args.kernel.now c.exit_group.new.kernel c.args.who
    c.args.thread q c.args.transfer.now c.args.transfer.now c.exit_group.result) (sym c.in-ExitGroup.is)
    (λ g k p whole st paired t length there named.
    c.exit_group.ensures g k p whole st paired c.args.transfer.now)

pub returns-in-Kill-clause-ok : goal.returns-in-Kill-clause-ok
unfolding row
returns-in-Kill-clause-ok c =
    subst (λ q. ServesAttempt c.args.kernel.now c.kill.new.kernel c.args.who
    c.args.thread q c.args.transfer.now c.args.transfer.now c.kill.result) (sym c.in-Kill.is)
    (λ g k p whole st paired t length there named.
    c.kill.ensures c.args.who g k p whole st paired c.args.transfer.now named)

pub returns-in-Tgkill-clause-ok : goal.returns-in-Tgkill-clause-ok
unfolding row
returns-in-Tgkill-clause-ok c =
    subst (λ q. ServesAttempt c.args.kernel.now c.tgkill.new.kernel c.args.who
    c.args.thread q c.args.transfer.now c.args.transfer.now c.tgkill.result) (sym c.in-Tgkill.is)
    (λ g k p whole st paired t length there named.
    c.tgkill.ensures c.args.who g k p whole st paired c.args.transfer.now named.0 named.1)

pub returns-in-Getpid-clause-ok : goal.returns-in-Getpid-clause-ok
unfolding row
returns-in-Getpid-clause-ok c =
    subst (λ q. ServesAttempt c.args.kernel.now c.args.kernel.now c.args.who
    c.args.thread q c.args.transfer.now c.args.transfer.now c.getpid.result) (sym c.in-Getpid.is)
    (λ g k p whole st paired t length there named.
    c.getpid.ensures c.args.kernel.now g k p whole st paired c.args.transfer.now)

pub returns-in-Getppid-clause-ok : goal.returns-in-Getppid-clause-ok
unfolding row
returns-in-Getppid-clause-ok c =
    subst (λ q. ServesAttempt c.args.kernel.now c.args.kernel.now c.args.who
    c.args.thread q c.args.transfer.now c.args.transfer.now c.getppid.result) (sym c.in-Getppid.is)
    (λ g k p whole st paired t length there named.
    c.getppid.ensures g k p whole st paired c.args.transfer.now)

pub returns-in-Clone-clause-ok : goal.returns-in-Clone-clause-ok
unfolding row
returns-in-Clone-clause-ok c =
    subst (λ q. IfOk c.clone.result (ServesAttempt c.args.kernel.now c.clone.new.kernel c.args.who
    c.args.thread q c.args.transfer.now c.args.transfer.now)) (sym c.in-Clone.is)
    (IfOk-weaker c.clone.result _ _ (λ a serves g k p whole st paired t length there named.
    serves g k p whole st paired c.args.transfer.now named.0 named.1) c.clone.ensures.ok)

pub returns-in-Wait4-clause-ok : goal.returns-in-Wait4-clause-ok
unfolding row
returns-in-Wait4-clause-ok c =
    subst (λ q. ServesAttempt c.args.kernel.now c.wait4.new.kernel c.args.who
    c.args.thread q c.args.transfer.now c.wait4.new.transfer c.wait4.result) (sym c.in-Wait4.is)
    (λ g k p whole st paired t length there named.
    c.wait4.ensures g k p whole st paired named)

use Rattle.std.proofs.Common.{sym, subst}
use Rattle.std.specs.Prelude.{IfOk}
use Rattle.std.proofs.lemmas.Result.{IfOk-weaker}
use Rattle.plain_machine.specs.Serve.{row}
use Rattle.host_tables.specs.Serves.{ServesAttempt}
use Rattle.host_kernel.proofs.serving.file_row.Goals as goal

pub returns-in-Unlinkat-clause-ok : goal.returns-in-Unlinkat-clause-ok
unfolding row
returns-in-Unlinkat-clause-ok c =
    subst (λ q. ServesAttempt c.args.kernel.now c.unlinkat.new.kernel c.args.who
    c.args.thread q c.args.transfer.now c.args.transfer.now c.unlinkat.result) (sym c.in-Unlinkat.is)
    (λ g k p whole st paired t length there named.
    c.unlinkat.ensures g k p whole st)

pub returns-in-Openat-clause-ok : goal.returns-in-Openat-clause-ok
unfolding row
returns-in-Openat-clause-ok c =
    subst (λ q. IfOk c.openat.result (ServesAttempt c.args.kernel.now c.openat.new.kernel c.args.who
    c.args.thread q c.args.transfer.now c.args.transfer.now)) (sym c.in-Openat.is)
    (IfOk-weaker c.openat.result _ _ (λ a serves g k p whole st paired t length there named.
    serves g k p whole st paired named) c.openat.ensures.ok)

pub returns-in-Lseek-clause-ok : goal.returns-in-Lseek-clause-ok
unfolding row
returns-in-Lseek-clause-ok c =
    subst (λ q. ServesAttempt c.args.kernel.now c.lseek.new.kernel c.args.who
    c.args.thread q c.args.transfer.now c.args.transfer.now c.lseek.result) (sym c.in-Lseek.is)
    (λ g k p whole st paired t length there named.
    c.lseek.ensures g k p whole st paired c.args.transfer.now)

pub returns-in-Read-clause-ok : goal.returns-in-Read-clause-ok
unfolding row
returns-in-Read-clause-ok c =
    subst (λ q. ServesAttempt c.args.kernel.now c.read.new.kernel c.args.who
    c.args.thread q c.args.transfer.now c.read.new.transfer c.read.result) (sym c.in-Read.is)
    (λ g k p whole st paired t length there named.
    c.read.ensures g k p whole st paired)

pub returns-in-Write-clause-ok : goal.returns-in-Write-clause-ok
unfolding row
returns-in-Write-clause-ok c =
    subst (λ q. IfOk c.write.result (ServesAttempt c.args.kernel.now c.write.new.kernel c.args.who
    c.args.thread q c.args.transfer.now c.args.transfer.now)) (sym c.in-Write.is)
    (IfOk-weaker c.write.result _ _ (λ a serves g k p whole st paired t length there named.
    serves g k p whole st paired t there) c.write.ensures.ok)

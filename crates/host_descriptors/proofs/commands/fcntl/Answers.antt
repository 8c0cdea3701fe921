use Rattle.std.proofs.Common.{ℕ, None, Some, refl, sym, ap, ◌∙◌}
use Rattle.std.specs.Prelude.{if◌then◌else◌}
use Rattle.std.proofs.lemmas.Result.{IfOk-weaker}
use Rattle.sys_abi.specs.declared.errors.TheConstants.{EINVAL}
use Rattle.fd_tables.specs.Slots.{slot}
use Rattle.plain_process.specs.declared.commands.FcntlCommand.TheVariants.{DupFd, DupFdCloexec, GetFd, SetFd, GetFl, SetFl, SetOwn, GetOwn}
use Rattle.host_tables.specs.OfPlainMachine.Rows.Descriptors.{fcntl_by}
use Rattle.host_tables.specs.declared.attempt.Attempt.TheVariants as answer
use Rattle.host_tables.specs.Numbers.{number_of}
use Rattle.host_tables.specs.Serves.{ByNumber, ByPidOr, ValueOfCommand}
use Rattle.host_tables.proofs.Replies.{gave, refused}
use Rattle.host_descriptors.specs.Held.{seen_held, owner_value}
use Rattle.host_descriptors.proofs.HeldChanges.{none_held}
use Rattle.host_descriptors.proofs.Owners.{owner_told}
use Rattle.host_descriptors.proofs.FcntlRows.{fcntl_bad, by_command}
use Rattle.host_descriptors.proofs.commands.fcntl.Goals as goal

pub returns-in_default-clause-ok : goal.returns-in_default-clause-ok
returns-in_default-clause-ok c g k p whole st paired x target =
    let real = c.args.kernel.now in
    fcntl_bad g real k st p c.args.who paired c.args.fd c.args.argument x
    (none_held real.book (slot c.args.who c.args.fd) c.whole.ensures (sym c.held_at.ensures ∙ c.in_default.is))
    c.args.number

pub returns-in-None-clause-ok : goal.returns-in-None-clause-ok
returns-in-None-clause-ok c g k p whole st paired x target =
    let real = c.args.kernel.now in
    by_command g real k st p c.args.who paired c.args.fd c.args.argument x c.in-Some.held (sym c.in-Some.ensures)
    c.args.number None c.in-None.ensures real (answer.Fails (record { 0 = EINVAL }))
    (refused g real x (ValueOfCommand c.args.who None) EINVAL
    (fcntl_by k p c.args.fd (seen_held g real c.in-Some.held) c.args.argument None) refl)

pub returns-in-Some-DupFd-clause-ok : goal.returns-in-Some-DupFd-clause-ok
returns-in-Some-DupFd-clause-ok c =
    IfOk-weaker c.dup_above.result _ _ (λ a serves g k p whole st paired x target.
    by_command g c.args.kernel.now k st p c.args.who paired c.args.fd c.args.argument x c.in-Some.held
    (sym c.in-Some.ensures) c.args.number (Some DupFd)
    (ap Some (sym c.in-Some-DupFd.field-0-is) ∙ c.in-Some-DupFd.ensures) c.dup_above.new.kernel a
    (serves g k p whole st paired x))
    c.dup_above.ensures.ok

pub returns-in-Some-DupFdCloexec-clause-ok : goal.returns-in-Some-DupFdCloexec-clause-ok
returns-in-Some-DupFdCloexec-clause-ok c =
    IfOk-weaker c.dup_above-in-Some-DupFdCloexec.result _ _ (λ a serves g k p whole st paired x target.
    by_command g c.args.kernel.now k st p c.args.who paired c.args.fd c.args.argument x c.in-Some.held
    (sym c.in-Some.ensures) c.args.number (Some DupFdCloexec)
    (ap Some (sym c.in-Some-DupFdCloexec.field-0-is) ∙ c.in-Some-DupFdCloexec.ensures)
    c.dup_above-in-Some-DupFdCloexec.new.kernel a
    (serves g k p whole st paired x))
    c.dup_above-in-Some-DupFdCloexec.ensures.ok

pub returns-in-Some-GetFd-clause-ok : goal.returns-in-Some-GetFd-clause-ok
returns-in-Some-GetFd-clause-ok c g k p whole st paired x target =
    let real = c.args.kernel.now in
    let flag : ℕ = if c.in-Some.held.cloexec then 1 else 0 in
    by_command g real k st p c.args.who paired c.args.fd c.args.argument x c.in-Some.held (sym c.in-Some.ensures)
    c.args.number (Some GetFd) (ap Some (sym c.in-Some-GetFd.field-0-is) ∙ c.in-Some-GetFd.ensures) real
    c.cloexec_flag.result
    (gave g real x ByNumber k flag flag refl real st c.cloexec_flag.result c.cloexec_flag.ensures)

pub returns-in-Some-SetFd-clause-ok : goal.returns-in-Some-SetFd-clause-ok
returns-in-Some-SetFd-clause-ok c g k p whole st paired x target =
    by_command g c.args.kernel.now k st p c.args.who paired c.args.fd c.args.argument x c.in-Some.held
    (sym c.in-Some.ensures) c.args.number (Some SetFd)
    (ap Some (sym c.in-Some-SetFd.field-0-is) ∙ c.in-Some-SetFd.ensures) c.set_cloexec.new.kernel (answer.Gives 0)
    (gave g c.args.kernel.now x ByNumber _ 0 0 refl c.set_cloexec.new.kernel
    (c.set_cloexec.ensures g k p whole st paired) (answer.Gives 0) refl)

pub returns-in-Some-GetFl-clause-ok : goal.returns-in-Some-GetFl-clause-ok
returns-in-Some-GetFl-clause-ok c g k p whole st paired x target =
    let real = c.args.kernel.now in
    let flags = c.in-Some.held.description.flags in
    by_command g real k st p c.args.who paired c.args.fd c.args.argument x c.in-Some.held (sym c.in-Some.ensures)
    c.args.number (Some GetFl) (ap Some (sym c.in-Some-GetFl.field-0-is) ∙ c.in-Some-GetFl.ensures) real
    (answer.Gives flags) (gave g real x ByNumber k flags flags refl real st (answer.Gives flags) refl)

pub returns-in-Some-SetFl-clause-ok : goal.returns-in-Some-SetFl-clause-ok
returns-in-Some-SetFl-clause-ok c g k p whole st paired x target =
    by_command g c.args.kernel.now k st p c.args.who paired c.args.fd c.args.argument x c.in-Some.held
    (sym c.in-Some.ensures) c.args.number (Some SetFl)
    (ap Some (sym c.in-Some-SetFl.field-0-is) ∙ c.in-Some-SetFl.ensures) c.set_status.new.kernel (answer.Gives 0)
    (gave g c.args.kernel.now x ByNumber _ 0 0 refl c.set_status.new.kernel (c.set_status.ensures g k st)
    (answer.Gives 0) refl)

pub returns-in-Some-SetOwn-clause-ok : goal.returns-in-Some-SetOwn-clause-ok
returns-in-Some-SetOwn-clause-ok c g k p whole st paired x target =
    by_command g c.args.kernel.now k st p c.args.who paired c.args.fd c.args.argument x c.in-Some.held
    (sym c.in-Some.ensures) c.args.number (Some SetOwn)
    (ap Some (sym c.in-Some-SetOwn.field-0-is) ∙ c.in-Some-SetOwn.ensures) c.set_owner.new.kernel
    c.set_owner.result (c.set_owner.ensures g k p x whole st target)

pub returns-in-Some-GetOwn-clause-ok : goal.returns-in-Some-GetOwn-clause-ok
returns-in-Some-GetOwn-clause-ok c g k p whole st paired x target =
    let real = c.args.kernel.now in
    let owner = c.in-Some.held.description.owner in
    by_command g real k st p c.args.who paired c.args.fd c.args.argument x c.in-Some.held (sym c.in-Some.ensures)
    c.args.number (Some GetOwn) (ap Some (sym c.in-Some-GetOwn.field-0-is) ∙ c.in-Some-GetOwn.ensures) real
    c.owner_number.result
    (gave g real x (ByPidOr 0 c.args.who) k (owner_value owner) (number_of g.virts 0 owner)
    (owner_told g real k st whole p c.args.who paired c.args.fd c.in-Some.held (sym c.in-Some.ensures)) real st
    c.owner_number.result c.owner_number.ensures)

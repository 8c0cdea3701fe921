use Rattle.std.proofs.Common.{List, take, sym, ap, ◌∙◌, subst}
use Rattle.std.proofs.lemmas.Result.{IfOk-weaker}
use Rattle.views.specs.Numbers.{Byte}
use Rattle.sys_abi.specs.declared.errors.TheConstants.{ENFILE}
use Rattle.plain_machine.specs.Rows.Files.{openat_row}
use Rattle.host_descriptors.specs.OfHostTables.Serves.{Serves, ByNumber, same}
use Rattle.host_descriptors.proofs.OfHostTables.Replies.{refused}
use Rattle.host_files.specs.Paths.{open_path}
use Rattle.host_files.proofs.Openings.{open_bad, open_numberless, open_named}
use Rattle.host_files.proofs.opening.openat.Goals as goal

pub returns-in-Err-clause-ok : goal.returns-in-Err-clause-ok
returns-in-Err-clause-ok c g k p whole st paired named =
    let given = c.args.transfer.now in
    refused g c.args.kernel.now given ByNumber c.in-Err.error.0 (openat_row k p c.args.directory c.args.flags given)
    (open_bad k p c.args.directory c.args.flags given c.in-Err.error.0
    (ap (open_path c.args.directory c.args.flags) (sym c.as_slice-given.ensures.value) ∙ c.in-Err.ensures.value))

pub returns-in-Some-clause-ok : goal.returns-in-Some-clause-ok
returns-in-Some-clause-ok c =
    IfOk-weaker c.open_named.result _ _ (λ a serves g k p whole st paired named.
    let given = c.args.transfer.now in
    let name : List Byte = take c.in-Ok.end c.as_slice-given.result.now in
    subst (λ m. Serves ByNumber same g c.args.kernel.now c.open_named.new.kernel given given a m)
    (sym (open_named k p c.args.directory c.args.flags given name
    (ap (open_path c.args.directory c.args.flags) (sym c.as_slice-given.ensures.value) ∙ c.in-Ok.ensures.value)
    c.in-Some.id (sym c.in-Some.is ∙ named)))
    (serves g k p whole st paired given (sym c.in-Some.is ∙ named)))
    c.open_named.ensures.ok

pub returns-in-None-clause-ok : goal.returns-in-None-clause-ok
returns-in-None-clause-ok c g k p whole st paired named =
    let given = c.args.transfer.now in
    refused g c.args.kernel.now given ByNumber ENFILE (openat_row k p c.args.directory c.args.flags given)
    (open_numberless k p c.args.directory c.args.flags given (take c.in-Ok.end c.as_slice-given.result.now)
    (ap (open_path c.args.directory c.args.flags) (sym c.as_slice-given.ensures.value) ∙ c.in-Ok.ensures.value)
    (sym c.in-None.is ∙ named))

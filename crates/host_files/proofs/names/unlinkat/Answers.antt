use Rattle.std.proofs.Common.{List, take, sym, ap, ◌∙◌, subst}
use Rattle.std.specs.FinMap as map
use Rattle.views.specs.Numbers.{Byte}
use Rattle.sys_abi.specs.declared.errors.TheConstants.{ENOENT}
use Rattle.vfs_files.specs.FileTable.{FileTable}
use Rattle.plain_machine.specs.Making.{desc_id}
use Rattle.plain_machine.specs.Rows.Files.{unlinkat_row, without_name}
use Rattle.host_descriptors.specs.OfHostTables.declared.attempt.Attempt.TheVariants.{Fails}
use Rattle.host_descriptors.specs.OfHostTables.Serves.{Serves, ByNumber, same}
use Rattle.host_descriptors.proofs.OfHostTables.Replies.{refused}
use Rattle.host_files.specs.Paths.{unlink_path}
use Rattle.host_files.proofs.Answered.{answered}
use Rattle.host_files.proofs.Unlinks.{unlink_bad, unlink_gone, unlink_done, was_none, was_some, same_without, name_kept, still_no_empty}
use Rattle.host_files.proofs.names.unlinkat.Goals as goal

pub returns-in-Err : goal.returns-in-Err
returns-in-Err c g k p whole st =
    let given = c.args.transfer.now in
    refused g c.args.kernel.now given ByNumber c.in-Err.error.0 (unlinkat_row k p c.args.directory c.args.flags given)
    (unlink_bad k p c.args.directory c.args.flags given c.in-Err.error.0
    (ap (unlink_path c.args.directory c.args.flags) (sym c.as_slice-given.ensures.value) ∙ c.in-Err.ensures.value))

pub returns-in_default : goal.returns-in_default
returns-in_default c g k p whole st =
    let real = c.args.kernel.now in
    let given = c.args.transfer.now in
    let row = unlinkat_row k p c.args.directory c.args.flags given in
    let name : List Byte = take c.in-Ok.end c.as_slice-given.result.now in
    let none = was_none (map.get real.files.names name) c.unlink.result c.unlink.ensures.file c.in_default.field-0
    c.in_default.is in
    subst (λ (t : FileTable). Serves ByNumber same g real (record real { files = t }) given given
    (Fails (record { 0 = ENOENT })) row)
    (sym (c.unlink.ensures.gone ∙ same_without real.files name none))
    (refused g real given ByNumber ENOENT row
    (unlink_gone k p c.args.directory c.args.flags given name
    (ap (unlink_path c.args.directory c.args.flags) (sym c.as_slice-given.ensures.value) ∙ c.in-Ok.ensures.value)
    (ap (λ m. map.get m name) st.files.names_are ∙ none)))

pub returns : goal.returns
returns c g k p whole st =
    let real = c.args.kernel.now in
    let given = c.args.transfer.now in
    let name : List Byte = take c.in-Ok.end c.as_slice-given.result.now in
    let number = c.in-Ok-unlink.number in
    let some = was_some (map.get real.files.names name) c.unlink.result c.unlink.ensures.file number
    c.in-Ok-unlink.is in
    answered g real given (without_name k name number) 0 (unlinkat_row k p c.args.directory c.args.flags given)
    (unlink_done k p c.args.directory c.args.flags given name
    (ap (unlink_path c.args.directory c.args.flags) (sym c.as_slice-given.ensures.value) ∙ c.in-Ok.ensures.value)
    number (ap (λ m. map.get m name) st.files.names_are ∙ some))
    c.let_go.new.kernel
    (c.let_go.ensures.goes g (record k { names = map.remove k.names name }) (desc_id p 0)
    (name_kept g real k st name c.unlink.new.self c.unlink.ensures.gone)
    (still_no_empty g real k st name whole c.unlink.new.self c.unlink.ensures.gone))

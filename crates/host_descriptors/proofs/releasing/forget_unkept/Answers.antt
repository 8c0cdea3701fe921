use Rattle.std.proofs.Common.{refl, sym, ◌∙◌, subst}
use Rattle.host_tables.specs.OfVfsFiles.FileTable.{FileTable}
use Rattle.host_tables.specs.OfPlainTables.Closing.{without_unkept}
use Rattle.host_tables.specs.OfPlainTables.Objects.{has_name}
use Rattle.host_tables.specs.Stands.{Stands}
use Rattle.std.specs.Prelude.{None}
use Rattle.host_descriptors.proofs.FileCloses.{file_stays, file_goes, or_true, true_or}
use Rattle.host_descriptors.proofs.releasing.forget_unkept.Goals as goal

pub returns-then-has_file : goal.returns-then-has_file
returns-then-has_file c g k st empty =
    let named = has_name c.args.kernel.now.files.names c.args.number in
    file_stays g c.args.kernel.now k st c.args.number named c.has_file.result refl (sym c.has_file.ensures)
    (or_true named c.has_file.result c.if-has_file.true)

pub returns-then-is_named : goal.returns-then-is_named
returns-then-is_named c g k st empty =
    file_stays g c.args.kernel.now k st c.args.number c.is_named.result c.has_file.result
    (sym (c.is_named.ensures empty)) (sym c.has_file.ensures)
    (true_or c.is_named.result c.has_file.result c.if-is_named.true)

pub returns : goal.returns
returns c g k st empty =
    subst (λ (t : FileTable). Stands g None (record c.args.kernel.now { files = t })
    (record k { files = without_unkept k.names k.descriptions k.files c.args.number }))
    (sym c.forget.ensures)
    (file_goes g c.args.kernel.now k st c.args.number
    (sym (c.is_named.ensures empty) ∙ c.if-is_named.false) (sym c.has_file.ensures ∙ c.if-has_file.false))

use Rattle.std.proofs.Common.{ap, ◌∙◌}
use Rattle.std.specs.FinMap as map
use Rattle.views.proofs.MapLaws.{remove_insert_new}
use Rattle.sys_abi.proofs.OrderLaws.{name_total, name_exact}
use Rattle.vfs_files.proofs.store.add_file.Goals as goal

pub returns-in-Err-clause-names_same : goal.returns-in-Err-clause-names_same
returns-in-Err-clause-names_same c =
    c.remove.ensures.removed ∙ ap (λ m. map.remove m c.args.name.now) c.in_ok-insert.ensures.ok
    ∙ remove_insert_new name_total name_exact c.args.names.now c.args.name.now c.args.file c.requires.new

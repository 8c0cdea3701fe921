use Rattle.std.proofs.Common.{ap, ◌∙◌}
use Rattle.std.specs.FinMap as map
use Rattle.views.proofs.MapLaws.{remove_insert_new}
use Rattle.sys_abi.proofs.OrderLaws.{name_total, name_exact}
use Rattle.vfs_files.proofs.names.insert_both.Goals as goal

pub returns-in-Err-clause-files_same : goal.returns-in-Err-clause-files_same
returns-in-Err-clause-files_same c =
    c.remove.ensures.removed
    ∙ ap (λ m. map.remove m c.args.name.now) (c.in_ok-insert.ensures.ok ∙ ap (λ key. map.insert c.args.files.now key c.args.file) (c.from_vec-key.ensures ∙ c.in_ok-from_slice.ensures.items))
    ∙ remove_insert_new name_total name_exact c.args.files.now c.args.name.now c.args.file c.requires

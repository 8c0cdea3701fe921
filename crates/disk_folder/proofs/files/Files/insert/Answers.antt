use Rattle.std.proofs.Common.{ap, ◌∙◌}
use Rattle.disk_folder.proofs.NameOrder.{name_total, name_exact}
use Rattle.std.specs.FinMap as map
use Rattle.views.proofs.TreeMaps.{view-insert}
use Rattle.disk_folder.proofs.files.Files.insert.Goals as goal

pub returns-clause-ok : goal.returns-clause-ok
returns-clause-ok c =
    view-insert name_total name_exact c.self.inside.table c.insert.new.self c.args.name c.args.file c.in_ok-insert.ensures.updates.0
    ∙ ap (λ m. map.insert m c.args.name c.args.file) c.self.view_is

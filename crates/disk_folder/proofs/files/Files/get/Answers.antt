use Rattle.std.proofs.Common.{sym, ap, ◌∙◌}
use Rattle.disk_folder.proofs.NameOrder.{name_total}
use Rattle.std.specs.FinMap as map
use Rattle.views.proofs.TreeMaps.{get-view}
use Rattle.disk_folder.proofs.files.Files.get.Goals as goal

pub returns : goal.returns
returns c = c.get.ensures.value ∙ sym (get-view name_total c.self.inside.table c.args.name) ∙ ap (λ m. map.get m c.args.name) c.self.view_is

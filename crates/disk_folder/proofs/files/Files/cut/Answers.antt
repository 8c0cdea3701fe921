use Rattle.std.proofs.Common.{sym, ap, ◌∙◌}
use Rattle.std.specs.FinMap as map
use Rattle.std.specs.Option.{option_copied_mut}
use Rattle.disk_folder.proofs.FilesAfter.{cut_there, on_some}
use Rattle.disk_folder.proofs.files.Files.cut.Goals as goal

pub returns-in-Some : goal.returns-in-Some
returns-in-Some c =
    on_some c.in-Some.is (c.get_mut.follows.holds c.cut.new.self) ∙ ap (map.insert c.args.self.now c.args.name) c.cut.ensures
    ∙ sym (cut_there c.args.self.now c.args.name c.args.len c.in-Some.file.now (sym c.get_mut.ensures.value ∙ ap option_copied_mut c.in-Some.is))

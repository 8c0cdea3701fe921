use Rattle.std.proofs.Common.{sym, ap, ◌∙◌}
use Rattle.std.specs.FinMap as map
use Rattle.std.specs.Option.{option_copied_mut}
use Rattle.disk_folder.proofs.FilesAfter.{write_there, same_there, on_some, on_ok_then, on_err_then}
use Rattle.disk_folder.proofs.files.Files.write_at.Goals as goal

pub returns-in-Some-clause-ok : goal.returns-in-Some-clause-ok
returns-in-Some-clause-ok c = on_ok_then c.write_at.result c.write_at.ensures.ok (λ written.
    on_some c.in-Some.is (c.get_mut.follows.holds c.write_at.new.self) ∙ ap (map.insert c.args.self.now c.args.name) written
    ∙ sym (write_there c.args.self.now c.args.name c.args.at c.args.bytes.now c.in-Some.file.now (sym c.get_mut.ensures.value ∙ ap option_copied_mut c.in-Some.is)))

pub returns-in-Some-clause-err : goal.returns-in-Some-clause-err
returns-in-Some-clause-err c = on_err_then c.write_at.result c.write_at.ensures.err (λ same.
    on_some c.in-Some.is (c.get_mut.follows.holds c.write_at.new.self) ∙ ap (map.insert c.args.self.now c.args.name) same
    ∙ same_there c.args.self.now c.args.name c.in-Some.file.now (sym c.get_mut.ensures.value ∙ ap option_copied_mut c.in-Some.is))

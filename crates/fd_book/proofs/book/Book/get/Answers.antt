use Rattle.std.proofs.Common.{refl, sym, ap, ◌∙◌}
use Rattle.std.specs.Prelude.{is_some}
use Rattle.std.specs.FinMap as map
use Rattle.fd_tables.specs.Slots.{slot}
use Rattle.fd_book.proofs.BookLaws.{is_there, described_there}
use Rattle.fd_book.proofs.book.Book.get.Goals as goal

pub returns-in-Some-clause-there : goal.returns-in-Some-clause-there
returns-in-Some-clause-there c =
    let id = c.in-Some.descriptor.desc in
    ap (λ b. is_some (map.get b.descriptions id)) (sym c.self.view_is) ∙ described_there c.self.inside.descriptions id
    ∙ is_there c.self.inside.tables c.self.inside.descriptions (slot c.args.p c.args.fd.0) c.in-Some.descriptor (map.get c.self.inside.descriptions id) c.self.invariant.counted (sym c.in-Some.ensures.at) refl

use Rattle.std.proofs.Common.{sym, ap, ◌∙◌}
use Rattle.std.specs.FinMap as map
use Rattle.fd_book.specs.Books.{is_held}
use Rattle.fd_book.proofs.BookLaws.{described, described_none, there_held}
use Rattle.fd_book.proofs.book.Book.desc.Goals as goal

pub returns-in-Some-clause-at : goal.returns-in-Some-clause-at
returns-in-Some-clause-at c = sym (described c.self.inside.descriptions c.args.id c.in-Some.open.now (sym c.in-Some.ensures)) ∙ ap (λ b. map.get b.descriptions c.args.id) c.self.view_is

pub returns-in-Some-clause-held : goal.returns-in-Some-clause-held
returns-in-Some-clause-held c =
    ap (λ b. is_held b.descriptors c.args.id) (sym c.self.view_is) ∙ there_held c.self.inside.tables c.self.inside.descriptions c.args.id c.in-Some.open.now c.self.invariant.counted (sym c.in-Some.ensures)

pub returns-in-None-clause-at : goal.returns-in-None-clause-at
returns-in-None-clause-at c = sym (described_none c.self.inside.descriptions c.args.id (sym c.in-None.ensures)) ∙ ap (λ b. map.get b.descriptions c.args.id) c.self.view_is

use Rattle.std.proofs.Common.{sym, ap, ◌∙◌}
use Rattle.std.specs.Prelude.{option_and_then}
use Rattle.std.specs.FinMap as map
use Rattle.fd_book.proofs.BookLaws.{described, described_none}
use Rattle.fd_book.proofs.book.Book.owner.Goals as goal

pub returns-in-Some : goal.returns-in-Some
returns-in-Some c =
    ap (λ found. option_and_then (λ d. d.owner) found)
    (sym (described c.self.inside.descriptions c.args.id c.in-Some.open.now (sym c.in-Some.ensures)) ∙ ap (λ b. map.get b.descriptions c.args.id) c.self.view_is)

pub returns-in-None : goal.returns-in-None
returns-in-None c =
    ap (λ found. option_and_then (λ d. d.owner) found)
    (sym (described_none c.self.inside.descriptions c.args.id (sym c.in-None.ensures)) ∙ ap (λ b. map.get b.descriptions c.args.id) c.self.view_is)

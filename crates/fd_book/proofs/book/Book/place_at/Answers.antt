use Rattle.std.proofs.Common.{refl, sym, ap, ◌∙◌}
use Rattle.std.specs.Prelude.{is_some}
use Rattle.std.specs.FinMap as map
use Rattle.fd_tables.specs.Slots.{slot}
use Rattle.fd_book.specs.Books.{with_descriptor}
use Rattle.fd_book.proofs.BookLaws.{described_there, described_none}
use Rattle.fd_book.proofs.BookViews.{same_there, new_there, on_ok_along}
use Rattle.fd_book.proofs.book.Book.place_at.Goals as goal

pub put_same-requires-clause-there : goal.put_same-requires-clause-there
put_same-requires-clause-there c = (ap (λ b. is_some (map.get b.descriptions c.args.id)) (sym c.self.view_is) ∙ described_there c.self.inside.descriptions c.args.id ∙ ap is_some (sym c.in-Some.ensures))

pub put_new-requires-clause-new_description : goal.put_new-requires-clause-new_description
put_new-requires-clause-new_description c = ap (λ b. map.get b.descriptions c.args.id) (sym c.self.view_is) ∙ described_none c.self.inside.descriptions c.args.id (sym c.in-None.ensures)

pub returns-in-Some-clause-ok : goal.returns-in-Some-clause-ok
returns-in-Some-clause-ok c =
    on_ok_along c.put_same.result (λ is.
    is ∙ ap (λ b. with_descriptor b (slot c.args.p c.args.fd.0) c.args.id c.args.cloexec)
    (sym (same_there c.args.self.now c.args.id c.args.desc (map.get c.args.self.now.descriptions c.args.id) refl (ap (λ b. is_some (map.get b.descriptions c.args.id)) (sym c.self.view_is) ∙ described_there c.self.inside.descriptions c.args.id ∙ ap is_some (sym c.in-Some.ensures)))))
    c.put_same.ensures.ok

pub returns-in-None-clause-ok : goal.returns-in-None-clause-ok
returns-in-None-clause-ok c =
    on_ok_along c.put_new.result (λ is.
    is ∙ ap (λ b. with_descriptor b (slot c.args.p c.args.fd.0) c.args.id c.args.cloexec) (sym (new_there c.args.self.now c.args.id c.args.desc (ap (λ b. map.get b.descriptions c.args.id) (sym c.self.view_is) ∙ described_none c.self.inside.descriptions c.args.id (sym c.in-None.ensures)))))
    c.put_new.ensures.ok

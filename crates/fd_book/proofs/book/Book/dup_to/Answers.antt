use Rattle.std.proofs.Common.{◌≡◌, sym, ap, ◌∙◌}
use Rattle.std.specs.FinMap as map
use Rattle.fd_tables.specs.OfSysAbi.declared.descriptor.Descriptor.{Descriptor}
use Rattle.fd_tables.specs.Slots.{slot}
use Rattle.fd_book.specs.Books.{with_descriptor, after_close}
use Rattle.fd_book.proofs.BookLaws.{other_held}
use Rattle.fd_book.proofs.BookViews.{refers_there, close_none, lost_none, the_descriptor}
use Rattle.fd_book.proofs.book.Book.dup_to.Goals as goal

pub put_same-requires-clause-there : goal.put_same-requires-clause-there
put_same-requires-clause-there c = refers_there c.self.inside.tables c.self.inside.descriptions c.self.inside.count c.args.self.now (slot c.args.p c.args.fd.0) c.in-Some.descriptor c.self.invariant c.self.view_is c.in-Some.ensures.at

pub returns-in_default-get-clause-lost : goal.returns-in_default-get-clause-lost
returns-in_default-get-clause-lost c = sym (lost_none c.args.self.now (slot c.args.p c.args.to.0) (ap (λ b. map.get b.descriptors (slot c.args.p c.args.to.0)) (sym c.self.view_is) ∙ sym c.in_default-get.ensures.at))

pub returns-in_default-get-clause-ok : goal.returns-in_default-get-clause-ok
returns-in_default-get-clause-ok c = λ d is.
    let same : c.in-Some.descriptor ≡ d = the_descriptor c.in-Some.descriptor d (sym (ap (λ b. map.get b.descriptors (slot c.args.p c.args.fd.0)) (sym c.self.view_is) ∙ sym c.in-Some.ensures.at) ∙ is) in
    c.in_ok-put_same.ensures.ok
    ∙ ap (λ b. with_descriptor b (slot c.args.p c.args.to.0) c.in-Some.descriptor.desc c.args.cloexec) (sym (close_none c.args.self.now (slot c.args.p c.args.to.0) (ap (λ b. map.get b.descriptors (slot c.args.p c.args.to.0)) (sym c.self.view_is) ∙ sym c.in_default-get.ensures.at)))
    ∙ ap (λ (e : Descriptor). with_descriptor (after_close c.args.self.now (slot c.args.p c.args.to.0)) (slot c.args.p c.args.to.0) e.desc c.args.cloexec) same

pub put_over-requires-clause-held : goal.put_over-requires-clause-held
put_over-requires-clause-held c =
    other_held c.args.self.now.descriptors (slot c.args.p c.args.to.0) (slot c.args.p c.args.fd.0) c.in-Some.descriptor (ap (λ b. map.get b.descriptors (slot c.args.p c.args.fd.0)) (sym c.self.view_is) ∙ sym c.in-Some.ensures.at) (λ same. c.requires.apart (sym (ap (λ at. at.fd) same)))

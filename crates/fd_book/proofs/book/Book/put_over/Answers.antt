use Rattle.std.proofs.Common.{sym, ap, ◌∙◌, arith}
use Rattle.std.specs.FinMap as map
use Rattle.fd_tables.specs.Slots.{slot}
use Rattle.fd_book.specs.Books.{is_held, with_descriptor, after_close, lost_by_close}
use Rattle.fd_tables.specs.Counts.{after_retain, after_release}
use Rattle.fd_book.proofs.BookLaws.{moved_book, not_empty}
use Rattle.fd_book.proofs.BookViews.{seen, over_room, over_book, over_seen, lost_seen}
use Rattle.fd_book.proofs.book.Book.put_over.Goals as goal

pub retain-requires : goal.retain-requires
retain-requires c = λ o is.
    let low = over_room c.self.inside.tables c.self.inside.descriptions c.self.inside.count (slot c.args.p c.args.fd) c.args.before c.args.id c.args.cloexec c.self.invariant (ap (λ b. map.get b.descriptors (slot c.args.p c.args.fd)) c.self.view_is ∙ c.requires.there) (ap (λ b. is_held (map.remove b.descriptors (slot c.args.p c.args.fd)) c.args.id) c.self.view_is ∙ c.requires.held) o (ap (λ w. map.get w c.args.id) (sym c.release-lost.ensures.left) ∙ is) in
    let some = not_empty c.self.inside.tables c.self.inside.descriptions c.self.inside.count (slot c.args.p c.args.fd) c.args.before c.self.invariant (ap (λ b. map.get b.descriptors (slot c.args.p c.args.fd)) c.self.view_is ∙ c.requires.there) in
    omega arith

pub invariant_of-self : goal.invariant_of-self
invariant_of-self c =
    moved_book (map.insert c.self.inside.tables (slot c.args.p c.args.fd) (record { desc = c.args.id; cloexec = c.args.cloexec })) c.replace.new.self
    (after_retain (after_release c.self.inside.descriptions c.args.before.desc) c.args.id) c.retain.new.self c.self.inside.count
    (over_book c.self.inside.tables c.self.inside.descriptions c.self.inside.count (slot c.args.p c.args.fd) c.args.before c.args.id c.args.cloexec c.self.invariant (ap (λ b. map.get b.descriptors (slot c.args.p c.args.fd)) c.self.view_is ∙ c.requires.there) (ap (λ b. is_held (map.remove b.descriptors (slot c.args.p c.args.fd)) c.args.id) c.self.view_is ∙ c.requires.held))
    c.replace.ensures (c.retain.ensures ∙ ap (λ w. after_retain w c.args.id) c.release-lost.ensures.left)

pub returns-clause-lost : goal.returns-clause-lost
returns-clause-lost c =
    c.release-lost.ensures.lost
    ∙ lost_seen c.self.inside.tables c.self.inside.descriptions (slot c.args.p c.args.fd) c.args.before c.self.invariant.counted (ap (λ b. map.get b.descriptors (slot c.args.p c.args.fd)) c.self.view_is ∙ c.requires.there)
    ∙ ap (λ b. lost_by_close b (slot c.args.p c.args.fd)) c.self.view_is

pub returns-clause-put : goal.returns-clause-put
returns-clause-put c =
    (λ i. seen (c.replace.ensures i) ((c.retain.ensures ∙ ap (λ w. after_retain w c.args.id) c.release-lost.ensures.left) i))
    ∙ over_seen c.self.inside.tables c.self.inside.descriptions c.self.inside.count (slot c.args.p c.args.fd) c.args.before c.args.id c.args.cloexec c.self.invariant (ap (λ b. map.get b.descriptors (slot c.args.p c.args.fd)) c.self.view_is ∙ c.requires.there) (ap (λ b. is_held (map.remove b.descriptors (slot c.args.p c.args.fd)) c.args.id) c.self.view_is ∙ c.requires.held)
    ∙ ap (λ b. with_descriptor (after_close b (slot c.args.p c.args.fd)) (slot c.args.p c.args.fd) c.args.id c.args.cloexec) c.self.view_is

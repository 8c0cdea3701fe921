use Rattle.std.proofs.Common.{◌-◌, ap, ◌∙◌}
use Rattle.std.specs.FinMap as map
use Rattle.fd_tables.specs.Slots.{slot}
use Rattle.fd_book.specs.Books.{after_close, lost_by_close}
use Rattle.fd_tables.specs.Counts.{after_release}
use Rattle.fd_book.proofs.BookLaws.{released_book, moved_book, not_empty}
use Rattle.fd_book.proofs.BookViews.{seen, close_seen, lost_seen}
use Rattle.fd_book.proofs.book.Book.close_open.Goals as goal

pub overflow_sub-self : goal.overflow_sub-self
overflow_sub-self c = not_empty c.self.inside.tables c.self.inside.descriptions c.self.inside.count (slot c.args.p c.args.fd) c.args.descriptor c.self.invariant (ap (λ b. map.get b.descriptors (slot c.args.p c.args.fd)) c.self.view_is ∙ c.requires.there)

pub invariant_of-self : goal.invariant_of-self
invariant_of-self c =
    moved_book (map.remove c.self.inside.tables (slot c.args.p c.args.fd)) c.clear.new.self (after_release c.self.inside.descriptions c.args.descriptor.desc) c.release.new.self (c.self.inside.count - 1)
    (released_book c.self.inside.tables c.self.inside.descriptions c.self.inside.count (slot c.args.p c.args.fd) c.args.descriptor c.self.invariant (ap (λ b. map.get b.descriptors (slot c.args.p c.args.fd)) c.self.view_is ∙ c.requires.there))
    c.clear.ensures c.release.ensures.left

pub returns-clause-closed : goal.returns-clause-closed
returns-clause-closed c =
    (λ i. seen (c.clear.ensures i) (c.release.ensures.left i))
    ∙ close_seen c.self.inside.tables c.self.inside.descriptions (slot c.args.p c.args.fd) c.args.descriptor c.self.invariant.counted (ap (λ b. map.get b.descriptors (slot c.args.p c.args.fd)) c.self.view_is ∙ c.requires.there)
    ∙ ap (λ b. after_close b (slot c.args.p c.args.fd)) c.self.view_is

pub returns-clause-lost : goal.returns-clause-lost
returns-clause-lost c =
    c.release.ensures.lost
    ∙ lost_seen c.self.inside.tables c.self.inside.descriptions (slot c.args.p c.args.fd) c.args.descriptor c.self.invariant.counted (ap (λ b. map.get b.descriptors (slot c.args.p c.args.fd)) c.self.view_is ∙ c.requires.there)
    ∙ ap (λ b. lost_by_close b (slot c.args.p c.args.fd)) c.self.view_is

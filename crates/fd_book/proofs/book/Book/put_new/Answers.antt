use Rattle.std.proofs.Common.{◌+◌, refl, sym, ap, ◌∙◌}
use Rattle.std.specs.FinMap as map
use Rattle.fd_tables.proofs.OfViews.MapLaws.{remove_insert_new}
use Rattle.fd_book.specs.Books.{Books, with_descriptor}
use Rattle.fd_tables.specs.Slots.{slot}
use Rattle.fd_tables.specs.Counts.{holders_of}
use Rattle.fd_tables.proofs.OrderLaws.{real_slot_total, real_slot_exact}
use Rattle.fd_book.proofs.BookLaws.{added_book, moved_book, undescribed}
use Rattle.fd_book.proofs.BookViews.{seen, put_new_seen}
use Rattle.fd_book.proofs.book.Book.put_new.Goals as goal

pub add-requires : goal.add-requires
add-requires c = (undescribed c.self.inside.descriptions c.args.id (map.get c.self.inside.descriptions c.args.id) refl (ap (λ b. map.get b.descriptions c.args.id) c.self.view_is ∙ c.requires.new_description))

pub invariant_of-self-in_default : goal.invariant_of-self-in_default
invariant_of-self-in_default c =
    moved_book c.self.inside.tables c.clear.new.self c.self.inside.descriptions c.add.new.self c.self.inside.count c.self.invariant
    (c.clear.ensures ∙ ap (λ w. map.remove w (slot c.args.p c.args.fd)) c.in_ok-put.ensures.ok ∙ remove_insert_new real_slot_total real_slot_exact c.self.inside.tables (slot c.args.p c.args.fd) (record { desc = c.args.id; cloexec = c.args.cloexec }) (ap (λ b. map.get b.descriptors (slot c.args.p c.args.fd)) c.self.view_is ∙ c.requires.free))
    c.in_default.ensures.err

pub returns-in_default-clause-err : goal.returns-in_default-clause-err
returns-in_default-clause-err c =
    (λ i. seen
    ((c.clear.ensures ∙ ap (λ w. map.remove w (slot c.args.p c.args.fd)) c.in_ok-put.ensures.ok ∙ remove_insert_new real_slot_total real_slot_exact c.self.inside.tables (slot c.args.p c.args.fd) (record { desc = c.args.id; cloexec = c.args.cloexec }) (ap (λ b. map.get b.descriptors (slot c.args.p c.args.fd)) c.self.view_is ∙ c.requires.free)) i)
    (c.in_default.ensures.err i))
    ∙ c.self.view_is

pub invariant_of-self-2 : goal.invariant_of-self-2
invariant_of-self-2 c =
    moved_book (map.insert c.self.inside.tables (slot c.args.p c.args.fd) (record { desc = c.args.id; cloexec = c.args.cloexec })) c.put.new.self (map.insert c.self.inside.descriptions c.args.id (record { desc = c.args.desc; holders = 1 })) c.add.new.self (c.self.inside.count + 1)
    (added_book c.self.inside.tables c.self.inside.descriptions c.self.inside.count (slot c.args.p c.args.fd) (record { desc = c.args.id; cloexec = c.args.cloexec }) (record { desc = c.args.desc; holders = 1 }) c.self.invariant (ap (λ b. map.get b.descriptors (slot c.args.p c.args.fd)) c.self.view_is ∙ c.requires.free) (ap (λ found. holders_of found + 1) (sym (undescribed c.self.inside.descriptions c.args.id (map.get c.self.inside.descriptions c.args.id) refl (ap (λ b. map.get b.descriptions c.args.id) c.self.view_is ∙ c.requires.new_description)))))
    c.in_ok-put.ensures.ok c.in-Ok.ensures.ok

pub returns-clause-ok : goal.returns-clause-ok
returns-clause-ok c =
    (λ i. seen (c.in_ok-put.ensures.ok i) (c.in-Ok.ensures.ok i))
    ∙ put_new_seen c.self.inside.tables c.self.inside.descriptions (slot c.args.p c.args.fd) c.args.id (record { desc = c.args.desc; holders = 1 }) c.args.cloexec
    ∙ ap (λ (b : Books). with_descriptor (record { descriptions = map.insert b.descriptions c.args.id c.args.desc; descriptors = b.descriptors }) (slot c.args.p c.args.fd) c.args.id c.args.cloexec) c.self.view_is

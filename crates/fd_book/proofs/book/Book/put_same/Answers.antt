use Rattle.std.proofs.Common.{◌+◌, sym, ap, ◌∙◌, arith}
use Rattle.std.specs.Prelude.{is_some}
use Rattle.std.specs.FinMap as map
use Rattle.fd_tables.specs.Slots.{slot}
use Rattle.fd_book.specs.Books.{with_descriptor}
use Rattle.fd_tables.specs.Counts.{after_retain}
use Rattle.fd_book.proofs.BookLaws.{after_retain_book, moved_book, described_there, holders_few}
use Rattle.fd_book.proofs.BookViews.{seen, put_same_seen}
use Rattle.fd_book.proofs.book.Book.put_same.Goals as goal

pub retain-requires : goal.retain-requires
retain-requires c = λ o is. let low = holders_few c.self.inside.tables c.self.inside.descriptions c.self.inside.count c.self.invariant c.args.id o is in omega arith

pub invariant_of-self-2 : goal.invariant_of-self-2
invariant_of-self-2 c =
    moved_book (map.insert c.self.inside.tables (slot c.args.p c.args.fd) (record { desc = c.args.id; cloexec = c.args.cloexec })) c.put.new.self (after_retain c.self.inside.descriptions c.args.id) c.retain.new.self (c.self.inside.count + 1)
    (after_retain_book c.self.inside.tables c.self.inside.descriptions c.self.inside.count (slot c.args.p c.args.fd) (record { desc = c.args.id; cloexec = c.args.cloexec }) c.self.invariant (ap (λ b. map.get b.descriptors (slot c.args.p c.args.fd)) c.self.view_is ∙ c.requires.free) (sym (described_there c.self.inside.descriptions c.args.id) ∙ ap (λ b. is_some (map.get b.descriptions c.args.id)) c.self.view_is ∙ c.requires.there))
    c.in_ok-put.ensures.ok c.retain.ensures

pub returns-clause-ok : goal.returns-clause-ok
returns-clause-ok c =
    (λ i. seen (c.in_ok-put.ensures.ok i) (c.retain.ensures i))
    ∙ put_same_seen c.self.inside.tables c.self.inside.descriptions (slot c.args.p c.args.fd) c.args.id c.args.cloexec
    ∙ ap (λ b. with_descriptor b (slot c.args.p c.args.fd) c.args.id c.args.cloexec) c.self.view_is

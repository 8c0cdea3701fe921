use Rattle.fd_tables.specs.Slots.{slot}
use Rattle.fd_book.proofs.BookViews.{refers_there}
use Rattle.fd_book.proofs.book.Book.dup_from.Goals as goal

pub put_same-requires-clause-there : goal.put_same-requires-clause-there
put_same-requires-clause-there c = refers_there c.self.inside.tables c.self.inside.descriptions c.self.inside.count c.args.self.now (slot c.args.p c.args.fd.0) c.in-Some.descriptor c.self.invariant c.self.view_is c.in-Some.ensures.at

use Rattle.std.proofs.Common.{Some, None, subst, arith}
use Rattle.fd_book.specs.Books.{Books}
use Rattle.fd_tables.specs.Numbers.{NoneOpen, IsLowestOpen, first_above}
use Rattle.fd_tables.proofs.Ranges.{none_above, open_above}
use Rattle.fd_book.proofs.book.Book.next_fd.Goals as goal

pub returns-in-Some : goal.returns-in-Some
returns-in-Some c =
    open_above c.args.self.now.descriptors c.args.p c.start_above.result (first_above c.args.above) 4294967295 (Some c.in-Some.fd) c.start_above.ensures (omega arith)
    (subst (λ (b : Books). IsLowestOpen b.descriptors c.args.p c.start_above.result c.in-Some.fd) c.self.view_is c.in-Some.ensures.some)

pub returns-in-None : goal.returns-in-None
returns-in-None c =
    none_above c.args.self.now.descriptors c.args.p c.start_above.result (first_above c.args.above) 4294967295 None c.start_above.ensures
    (subst (λ (b : Books). NoneOpen b.descriptors c.args.p c.start_above.result) c.self.view_is c.in-None.ensures.none)

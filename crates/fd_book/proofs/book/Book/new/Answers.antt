use Rattle.fd_book.proofs.BookLaws.{new_book, new_seen}
use Rattle.fd_book.proofs.book.Book.new.Goals as goal

pub invariant_of-result : goal.invariant_of-result
invariant_of-result c = new_book c.new.result c.new-2.result c.new.ensures c.new-2.ensures

pub returns : goal.returns
returns c = new_seen c.new.result c.new-2.result c.new.ensures c.new-2.ensures

use Rattle.std.proofs.Common.{ap}
use Rattle.fd_book.specs.Books.{Books}
use Rattle.fd_book.proofs.UseLaws.{disowned_book, disowned_descs}
use Rattle.fd_book.proofs.book.Book.disown.Goals as goal

pub invariant_of-self : goal.invariant_of-self
invariant_of-self c = disowned_book c.args.p c.self.inside.tables c.self.inside.descriptions c.disown.new.self c.self.inside.count c.self.invariant c.disown.ensures

pub returns : goal.returns
returns c = λ i. record {
  descriptions = disowned_descs c.args.p c.self.inside.descriptions c.disown.new.self c.args.self.now.descriptions c.disown.ensures (ap (λ (b : Books). b.descriptions) c.self.view_is) i;
  descriptors = ap (λ (b : Books). b.descriptors) c.self.view_is i;
}

use Rattle.std.proofs.Common.{ap, ◌∙◌}
use Rattle.fd_book.specs.Books.{Books}
use Rattle.fd_tables.specs.Parts.{is_of_file}
use Rattle.fd_book.proofs.UseLaws.{any-descs}
use Rattle.fd_book.proofs.book.Book.has_file.Goals as goal

pub returns : goal.returns
returns c = c.has_file.ensures ∙ any-descs (is_of_file c.args.number) c.self.inside.descriptions c.args.self.now.descriptions (ap (λ (b : Books). b.descriptions) c.self.view_is)

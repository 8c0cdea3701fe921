use Rattle.std.proofs.Common.{sym, ap, ◌∙◌}
use Rattle.std.specs.Prelude.{find}
use Rattle.std.specs.FinMap as map
use Rattle.fd_tables.proofs.OfViews.MapValues.{keys-map_values}
use Rattle.fd_tables.specs.Parts.{is_after}
use Rattle.fd_book.specs.Counted.{desc_of}
use Rattle.fd_book.proofs.book.Book.next_desc.Goals as goal

pub returns : goal.returns
returns c = c.next_above.ensures ∙ ap (λ keys. find (is_after c.args.above) keys) (sym (keys-map_values desc_of c.self.inside.descriptions) ∙ ap (λ b. map.keys b.descriptions) c.self.view_is)

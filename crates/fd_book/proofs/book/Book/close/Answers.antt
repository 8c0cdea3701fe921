use Rattle.std.proofs.Common.{sym, ap, ◌∙◌}
use Rattle.std.specs.FinMap as map
use Rattle.fd_tables.specs.Slots.{slot}
use Rattle.fd_book.proofs.BookViews.{close_none}
use Rattle.fd_book.proofs.book.Book.close.Goals as goal

pub returns-in-None-clause-closed : goal.returns-in-None-clause-closed
returns-in-None-clause-closed c =
    sym (close_none c.args.self.now (slot c.args.p c.args.fd.0) (ap (λ b. map.get b.descriptors (slot c.args.p c.args.fd.0)) (sym c.self.view_is) ∙ sym c.in-None.ensures.at))

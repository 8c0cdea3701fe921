use Rattle.std.proofs.Common.{◌↔◌, Contains, subst}
use Rattle.std.specs.Prelude.{IfOk}
use Rattle.fd_tables.specs.OfSysAbi.declared.identity.RealPid.{RealPid}
use Rattle.fd_book.specs.Books.{Books}
use Rattle.fd_tables.specs.Slots.{IsHolder}
use Rattle.fd_book.proofs.book.Book.holders.Goals as goal

pub returns-clause-listed : goal.returns-clause-listed
returns-clause-listed c =
    subst (λ (b : Books). IfOk c.holders.result (λ list. (p : RealPid) → Contains list.items p ↔ IsHolder b.descriptors c.args.id p)) c.self.view_is c.holders.ensures.listed

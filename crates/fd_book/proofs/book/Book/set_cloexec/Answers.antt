use Rattle.std.proofs.Common.{refl, sym}
use Rattle.std.specs.FinMap as map
use Rattle.fd_tables.specs.OfSysAbi.declared.descriptor.Descriptor.{Descriptor}
use Rattle.fd_tables.specs.Slots.{slot}
use Rattle.fd_book.proofs.BookLaws.{replaced_book, moved_book}
use Rattle.fd_book.proofs.book.Book.set_cloexec.Goals as goal

pub invariant_of-self : goal.invariant_of-self
invariant_of-self c =
    let changed : Descriptor = record { desc = c.in-Some.descriptor.desc; cloexec = c.args.on } in
    moved_book (map.insert c.self.inside.tables (slot c.args.p c.args.fd.0) changed) c.replace.new.self c.self.inside.descriptions c.self.inside.descriptions c.self.inside.count
    (replaced_book c.self.inside.tables c.self.inside.descriptions c.self.inside.count (slot c.args.p c.args.fd.0) c.in-Some.descriptor changed c.self.invariant (sym c.in-Some.ensures.at) refl)
    c.replace.ensures refl

use Rattle.std.proofs.Common.{◌+◌, refl, ap, ◌∙◌, arith}
use Rattle.std.specs.FinMap as map
use Rattle.fd_tables.specs.Slots.{slot}
use Rattle.fd_tables.specs.Numbers.{NoneOpen}
use Rattle.fd_tables.specs.Counts.{after_retains}
use Rattle.fd_book.proofs.BookLaws.{descs, holders_few, moved_book}
use Rattle.fd_book.proofs.ForkLaws.{forked_book, forked_none, forked_descs}
use Rattle.fd_book.proofs.book.Book.fork_table.Goals as goal

pub retain_all-requires : goal.retain_all-requires
retain_all-requires c = λ id o is.
    let low = holders_few c.self.inside.tables c.self.inside.descriptions c.self.inside.count c.self.invariant id o is in
    let size = c.in-Some.ensures.size in
    omega arith

pub invariant_of-self-in-Some : goal.invariant_of-self-in-Some
invariant_of-self-in-Some c =
    let free : NoneOpen c.self.inside.tables c.args.child 0 = λ fd after. ap (λ b. map.get b.descriptors (slot c.args.child fd)) c.self.view_is ∙ c.requires fd after in
    moved_book c.copy.new.self c.copy.new.self (after_retains c.self.inside.descriptions c.in-Some.places.now) c.retain_all.new.self (c.self.inside.count + c.retain_all.result)
    (forked_book c.self.inside.tables c.copy.new.self c.self.inside.descriptions c.self.inside.count c.args.p c.args.child c.self.invariant free c.in_ok-copy.ensures.same c.in_ok-copy.ensures.others
    c.in-Some.places.now c.retain_all.result c.in-Some.ensures.at c.retain_all.ensures.number)
    refl c.retain_all.ensures.retained

pub invariant_of-self-in_default : goal.invariant_of-self-in_default
invariant_of-self-in_default c =
    let free : NoneOpen c.self.inside.tables c.args.child 0 = λ fd after. ap (λ b. map.get b.descriptors (slot c.args.child fd)) c.self.view_is ∙ c.requires fd after in
    forked_none c.self.inside.tables c.copy.new.self c.self.inside.descriptions c.self.inside.count c.args.p c.args.child c.self.invariant free c.in_ok-copy.ensures.same c.in_ok-copy.ensures.others c.in_default.ensures.at

pub returns-in-Some-clause-descriptions : goal.returns-in-Some-clause-descriptions
returns-in-Some-clause-descriptions c =
    ap descs c.retain_all.ensures.retained ∙ forked_descs c.self.inside.descriptions c.in-Some.places.now ∙ ap (λ b. b.descriptions) c.self.view_is

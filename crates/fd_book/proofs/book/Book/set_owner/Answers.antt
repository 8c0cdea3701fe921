use Rattle.std.proofs.Common.{refl, sym, ap, ◌∙◌}
use Rattle.std.specs.FinMap as map
use Rattle.fd_tables.specs.Parts.{with_owner}
use Rattle.fd_book.specs.Books.{with_changed}
use Rattle.fd_tables.specs.declared.open.Open.{Open}
use Rattle.fd_book.proofs.BookLaws.{changed_book, moved_book}
use Rattle.fd_book.proofs.BookViews.{seen, changed_seen, changed_none}
use Rattle.fd_book.proofs.book.Book.set_owner.Goals as goal

pub invariant_of-self : goal.invariant_of-self
invariant_of-self c =
    let after : Open = (record { desc = record { object = c.in-Some.open.desc.object; flags = c.in-Some.open.desc.flags; owner = c.args.owner }; holders = c.in-Some.open.holders }) in
    moved_book c.self.inside.tables c.self.inside.tables (map.insert c.self.inside.descriptions c.args.id after) c.set.new.self c.self.inside.count
    (changed_book c.self.inside.tables c.self.inside.descriptions c.self.inside.count c.args.id c.in-Some.open after c.self.invariant (sym c.get.ensures ∙ sym c.copied.ensures ∙ c.in-Some.is) refl)
    refl c.set.ensures

pub returns-in-Some : goal.returns-in-Some
returns-in-Some c =
    let after : Open = (record { desc = record { object = c.in-Some.open.desc.object; flags = c.in-Some.open.desc.flags; owner = c.args.owner }; holders = c.in-Some.open.holders }) in
    ap (seen c.self.inside.tables) c.set.ensures
    ∙ changed_seen (with_owner c.args.owner) c.self.inside.tables c.self.inside.descriptions c.args.id c.in-Some.open after (sym c.get.ensures ∙ sym c.copied.ensures ∙ c.in-Some.is) refl
    ∙ ap (λ b. with_changed (with_owner c.args.owner) b c.args.id) c.self.view_is

pub returns-in_default : goal.returns-in_default
returns-in_default c =
    sym c.self.view_is ∙ changed_none (with_owner c.args.owner) c.self.inside.tables c.self.inside.descriptions c.args.id (sym c.get.ensures ∙ sym c.copied.ensures ∙ c.in_default.is) ∙ ap (λ b. with_changed (with_owner c.args.owner) b c.args.id) c.self.view_is

use Rattle.std.proofs.Common.{sym, subst, arith}
use Rattle.guest_pages.specs.Pages.{IsSpace}
use Rattle.guest_pages.proofs.Writes.{IsSpace-insert, IsSpace-new_page}
use Rattle.guest_mem.proofs.space.Space.insert_page.Goals.{else-not-contains-via-then-not-contains+else-len-ge-PAGE_LIMIT, else-not-contains-via-else-not-contains}
use Rattle.guest_mem.proofs.space.Space.insert_page.Goals as goal

pub invariant_of-self-2 : goal.invariant_of-self-2
invariant_of-self-2 c =
    subst IsSpace (sym c.in_ok-insert.ensures.ok) (elim c.else-not-contains.branch [
      | else-not-contains-via-then-not-contains+else-len-ge-PAGE_LIMIT w ↦
          IsSpace-new_page c.self.inside.frames c.args.page c.args.frame c.self.invariant c.requires (omega (arith, w.len.ensures, w.if-len-ge-PAGE_LIMIT.false))
      | else-not-contains-via-else-not-contains w ↦
          IsSpace-insert c.self.inside.frames c.args.page c.args.frame c.self.invariant (sym w.if-not-contains.ensures)
    ])

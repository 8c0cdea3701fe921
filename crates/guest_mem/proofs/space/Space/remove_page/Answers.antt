use Rattle.std.proofs.Common.{sym, subst}
use Rattle.guest_pages.specs.Pages.{IsSpace}
use Rattle.guest_pages.proofs.Writes.{IsSpace-removed}
use Rattle.guest_mem.proofs.space.Space.remove_page.Goals as goal

pub invariant_of-self : goal.invariant_of-self
invariant_of-self c = subst IsSpace (sym c.remove.ensures) (IsSpace-removed c.self.inside.frames c.args.page c.self.invariant)

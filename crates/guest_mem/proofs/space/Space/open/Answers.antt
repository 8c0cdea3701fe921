use Rattle.std.proofs.Common.{sym, subst}
use Rattle.guest_pages.specs.Pages.{IsSpace}
use Rattle.guest_pages.proofs.Writes.{IsSpace-empty}
use Rattle.guest_mem.proofs.space.Space.open.Goals as goal

pub invariant_of-self : goal.invariant_of-self
invariant_of-self c = subst IsSpace (sym c.open.ensures.empty) IsSpace-empty

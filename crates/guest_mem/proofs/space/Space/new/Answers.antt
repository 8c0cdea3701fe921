use Rattle.std.proofs.Common.{sym, subst}
use Rattle.guest_pages.specs.Pages.{IsSpace}
use Rattle.guest_pages.proofs.Writes.{IsSpace-empty}
use Rattle.guest_mem.proofs.space.Space.new.Goals as goal

pub invariant_of-result : goal.invariant_of-result
invariant_of-result c = subst IsSpace (sym c.new.ensures) IsSpace-empty

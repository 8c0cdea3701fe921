use Rattle.guest_start.proofs.Loading.{ContentPages}
use Rattle.guest_start.proofs.pages.put_pages.Given as goal

abbrev pub invariant-loop-index : goal.invariant-loop-index
invariant-loop-index l = ContentPages l.initial.space l.first l.rights l.content l.index l.space

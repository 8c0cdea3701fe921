use Rattle.rebuild_tables.proofs.Left.{ArePlaced}
use Rattle.rebuild_tables.proofs.rebuilding.rebuild_book.Given as goal

abbrev pub invariant-loop-at : goal.invariant-loop-at
invariant-loop-at l = ArePlaced l.ids l.kernel.descriptors l.kernel.descriptions l.at-iterator l.book

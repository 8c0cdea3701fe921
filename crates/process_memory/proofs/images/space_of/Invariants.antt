use Rattle.std.proofs.Common.{length}
use Rattle.process_memory.proofs.PageImages.{FillsSpace}
use Rattle.process_memory.proofs.images.space_of.Given as goal

abbrev pub invariant-loop-page : goal.invariant-loop-page
invariant-loop-page l = FillsSpace l.fn.pages l.left.items l.space

abbrev pub decreases-loop-page : goal.decreases-loop-page
decreases-loop-page l = length l.left.items

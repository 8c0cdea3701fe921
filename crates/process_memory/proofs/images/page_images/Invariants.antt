use Rattle.std.proofs.Common.{length}
use Rattle.std.specs.FinMap as map
use Rattle.image_process.proofs.EntryLists.{above}
use Rattle.process_memory.proofs.PageImages.{CopiesPages}
use Rattle.process_memory.proofs.images.page_images.Given as goal

abbrev pub invariant-loop-number : goal.invariant-loop-number
invariant-loop-number l = CopiesPages l.space l.pages.items l.last

abbrev pub decreases-loop-number : goal.decreases-loop-number
decreases-loop-number l = length (above l.last (map.entries l.space))

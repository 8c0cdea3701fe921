use Rattle.std.proofs.Common.{◌≡◌, drop}
use Rattle.image_process.proofs.HeapWalk.{walk}
use Rattle.image_process.proofs.page_image.has_heap.Given as goal

abbrev pub invariant-loop-page : goal.invariant-loop-page
invariant-loop-page l = walk l.limit l.next (drop l.page-index l.pages) ≡ walk l.limit l.initial.next l.pages

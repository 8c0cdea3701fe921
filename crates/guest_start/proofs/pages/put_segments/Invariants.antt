use Rattle.guest_start.proofs.Loading.{SegmentPages}
use Rattle.guest_start.proofs.pages.put_segments.Given as goal

abbrev pub invariant-loop-number : goal.invariant-loop-number
invariant-loop-number l = SegmentPages l.segments l.number l.space

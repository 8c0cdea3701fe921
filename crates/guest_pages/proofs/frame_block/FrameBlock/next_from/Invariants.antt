use Rattle.std.proofs.Common.{◌≡◌, ℕ, ◌≤◌, ◌<◌}
use Rattle.std.specs.Prelude.{None, slice_index_or}
use Rattle.guest_pages.proofs.frame_block.FrameBlock.next_from.Given as goal

-- no place so far holds a frame
abbrev pub invariant-loop-at : goal.invariant-loop-at
invariant-loop-at l = (k : ℕ) → l.start ≤ k → k < l.at → slice_index_or l.self-inside.cells.items k None ≡ None

use Rattle.std.proofs.Common.{◌≡◌, ℕ, ◌-◌, ◌/◌, ◌≤◌, ◌<◌, length}
use Rattle.std.specs.Prelude.{None}
use Rattle.guest_pages.specs.FrameTable.{cell_at}
use Rattle.guest_pages.proofs.frame_table.FrameTable.next_from.Given as goal

-- at no number so far a frame stands
abbrev pub invariant-loop-number : goal.invariant-loop-number
invariant-loop-number l = record {
  from : l.start ≤ l.number;
  none : (q : ℕ) → l.start ≤ q → q < l.number → cell_at l.blocks q ≡ None;
}

abbrev pub decreases-loop-number : goal.decreases-loop-number
decreases-loop-number l = length l.blocks - l.number / 1024

use Rattle.std.proofs.Common.{◌≤◌, ◌-◌, max, length}
use Rattle.guest_pages.specs.FrameTable.{IsSameRows}
use Rattle.guest_pages.proofs.frame_table.grow.Given as goal

abbrev pub invariant-loop-alloc : goal.invariant-loop-alloc
invariant-loop-alloc l = record {
  same : IsSameRows l.initial.blocks.items l.blocks.items;
  short : length l.blocks.items ≤ max (length l.initial.blocks.items) l.len;
}

abbrev pub decreases-loop-alloc : goal.decreases-loop-alloc
decreases-loop-alloc l = l.len - length l.blocks.items

use Rattle.std.proofs.Common.{◌-◌, length}
use Rattle.guest_pages.specs.Cells.{IsSameCells}
use Rattle.guest_pages.proofs.frame_block.grow.Given as goal

abbrev pub invariant-loop-cells : goal.invariant-loop-cells
invariant-loop-cells l = IsSameCells l.initial.cells.items l.cells.items

abbrev pub decreases-loop-cells : goal.decreases-loop-cells
decreases-loop-cells l = l.len - length l.cells.items

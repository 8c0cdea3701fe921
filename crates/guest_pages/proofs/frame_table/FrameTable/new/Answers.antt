use Rattle.std.proofs.Common.{◌≤◌, ◌^◌, length, subst, arith, sym, ap, ◌∙◌}
use Rattle.std.specs.Ordering.{nat_cmp}
use Rattle.std.specs.FinMap as map
use Rattle.plain_process.specs.declared.memory.Frame.{Frame}
use Rattle.plain_process.specs.Memory.{Memory}
use Rattle.guest_pages.specs.FrameTable.{Rows, frames_of}
use Rattle.guest_pages.proofs.FrameTables.{frames-empty}
use Rattle.guest_pages.proofs.frame_table.FrameTable.new.Goals as goal

pub invariant_of-result : goal.invariant_of-result
invariant_of-result c =
    record {
      counted = sym (ap (λ (rows : Rows). map.len (frames_of rows)) c.new.ensures.items ∙ ap (λ (m : Memory). map.len m) frames-empty ∙ map.len-empty nat_cmp Frame);
      short = subst (λ (rows : Rows). length rows ≤ 2 ^ 22) (sym c.new.ensures.items) (omega arith);
    }

pub returns : goal.returns
returns c = ap frames_of c.new.ensures.items ∙ frames-empty

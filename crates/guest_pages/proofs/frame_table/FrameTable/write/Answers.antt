use Rattle.std.proofs.Common.{◌≡◌, ◌<◌, ◌≤◌, ◌/◌, length, sym, ap, subst, ◌∙◌, arith}
use Rattle.std.specs.Prelude.{Option, IfSome}
use Rattle.std.specs.FinMap as map
use Rattle.plain_process.specs.declared.memory.Frame.{Frame}
use Rattle.plain_process.specs.Memory.{Memory}
use Rattle.guest_pages.specs.Bytes.{with_piece}
use Rattle.guest_pages.proofs.FrameTables.{short-set, changed-in_row, changed-missing, get-in_row, get-past, len-changed}
use Rattle.guest_pages.proofs.frame_table.FrameTable.write.Goals as goal

pub invariant_of-self : goal.invariant_of-self
invariant_of-self c =
    let within : c.args.page / 1024 < length c.self.inside.blocks.items = let ok = c.self.inside.blocks.ok in omega (arith, c.len.ensures) in
    let f : Frame → Frame = (λ (frame : Frame). with_piece frame c.args.offset c.args.piece.now) in
    record {
      counted = c.self.invariant.counted ∙ ap (λ (m : Memory). map.len m) c.self.view_is ∙ sym (ap (λ (m : Memory). map.len m) (changed-in_row c.self.inside.blocks.items c.args.self.now c.args.page c.index_mut.result.now c.write.new.self f c.self.view_is within c.index_mut.ensures.value c.write.ensures.put) ∙ len-changed c.args.self.now c.args.page f);
      short = short-set c.self.inside.blocks.items (c.args.page / 1024) c.write.new.self c.self.invariant.short;
    }

pub returns-then-number-len-clause-put : goal.returns-then-number-len-clause-put
returns-then-number-len-clause-put c =
    let within : c.args.page / 1024 < length c.self.inside.blocks.items = let ok = c.self.inside.blocks.ok in omega (arith, c.len.ensures) in
    changed-in_row c.self.inside.blocks.items c.args.self.now c.args.page c.index_mut.result.now c.write.new.self (λ (frame : Frame). with_piece frame c.args.offset c.args.piece.now) c.self.view_is within c.index_mut.ensures.value c.write.ensures.put

pub returns-then-number-len-clause-length : goal.returns-then-number-len-clause-length
returns-then-number-len-clause-length c =
    let within : c.args.page / 1024 < length c.self.inside.blocks.items = let ok = c.self.inside.blocks.ok in omega (arith, c.len.ensures) in
    subst (λ (found : Option Frame). IfSome found (λ frame. length frame.page ≡ 4096))
    (sym (get-in_row c.self.inside.blocks.items c.args.self.now c.args.page c.index_mut.result.now c.self.view_is within c.index_mut.ensures.value)) c.write.ensures.length

pub returns-else-number-len-clause-put : goal.returns-else-number-len-clause-put
returns-else-number-len-clause-put c =
    let past : length c.self.inside.blocks.items ≤ c.args.page / 1024 = let ok = c.self.inside.blocks.ok in omega (arith, c.len.ensures) in
    sym (changed-missing c.args.self.now c.args.page (λ (frame : Frame). with_piece frame c.args.offset c.args.piece.now) (get-past c.self.inside.blocks.items c.args.self.now c.args.page c.self.view_is past))

pub returns-else-number-len-clause-length : goal.returns-else-number-len-clause-length
returns-else-number-len-clause-length c =
    let past : length c.self.inside.blocks.items ≤ c.args.page / 1024 = let ok = c.self.inside.blocks.ok in omega (arith, c.len.ensures) in
    subst (λ (found : Option Frame). IfSome found (λ frame. length frame.page ≡ 4096)) (sym (get-past c.self.inside.blocks.items c.args.self.now c.args.page c.self.view_is past)) tt

use Rattle.std.proofs.Common.{◌<◌, ◌≤◌, ◌/◌, length, sym, ◌∙◌, arith}
use Rattle.guest_pages.proofs.FrameTables.{get-in_row, get-past}
use Rattle.guest_pages.proofs.frame_table.FrameTable.get.Goals as goal

pub returns-then-number-len : goal.returns-then-number-len
returns-then-number-len c =
    let within : c.args.page / 1024 < length c.self.inside.blocks.items = let ok = c.self.inside.blocks.ok in omega (arith, c.len.ensures) in
    c.get.ensures ∙ sym (get-in_row c.self.inside.blocks.items c.args.self.now c.args.page c.index.result.now c.self.view_is within c.index.ensures)

pub returns-else-number-len : goal.returns-else-number-len
returns-else-number-len c =
    let past : length c.self.inside.blocks.items ≤ c.args.page / 1024 = let ok = c.self.inside.blocks.ok in omega (arith, c.len.ensures) in
    sym (get-past c.self.inside.blocks.items c.args.self.now c.args.page c.self.view_is past)

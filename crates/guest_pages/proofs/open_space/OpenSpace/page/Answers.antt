use Rattle.std.proofs.Common.{◌<◌, ◌/◌, length, refl, sym, ap, ◌∙◌, arith}
use Rattle.std.specs.FinMap as map
use Rattle.plain_process.specs.Memory.{Memory}
use Rattle.guest_pages.specs.FrameTable.{frames_of}
use Rattle.guest_pages.proofs.FrameTables.{get-in_row}
use Rattle.guest_pages.proofs.OpenTables.{get-other}
use Rattle.guest_pages.proofs.open_space.OpenSpace.page.Goals as goal

pub returns-in-Some : goal.returns-in-Some
returns-in-Some c =
    let rows = c.self.inside.blocks.items in
    let within : c.args.page / 1024 < length rows = let ok = c.self.inside.blocks.ok in omega (arith, c.len.ensures, c.if-number-len.false) in
    ap (λ (m : Memory). map.get m c.args.page) (sym c.self.view_is)
    ∙ get-other rows c.self.inside.start c.args.page c.self.inside.code c.in-Some.frame.now c.self.invariant.absent
    (get-in_row rows (frames_of rows) c.args.page c.index.result.now refl within c.index.ensures ∙ sym c.in-Some.ensures)

use Rattle.std.proofs.Common.{ap, ◌∙◌}
use Rattle.guest_pages.specs.FrameTable.{frames_of}
use Rattle.guest_pages.proofs.FrameTables.{row_first, no_frame}
use Rattle.guest_pages.proofs.frame_table.FrameTable.next_from.Goals as goal

pub returns-in-Some : goal.returns-in-Some
returns-in-Some c =
    row_first c.as_slice-blocks.result.now c.args.self.now c.args.start c.loop-number.number c.in-Some.place c.index-blocks-number.result
    (ap frames_of c.as_slice-blocks.ensures.value ∙ c.self.view_is) c.loop-number-test.true c.index-blocks-number.is c.loop-number.invariant.from c.loop-number.invariant.none c.in-Some.ensures

pub returns : goal.returns
returns c = λ q from.
    no_frame c.as_slice-blocks.result.now c.args.self.now c.args.start c.loop-number.number q (ap frames_of c.as_slice-blocks.ensures.value ∙ c.self.view_is)
    c.loop-number-test.false c.loop-number.invariant.none from

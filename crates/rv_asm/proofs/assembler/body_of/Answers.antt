use Rattle.std.proofs.Common.{◌≡◌, true, refl, arith, map}
use Rattle.rv_asm.specs.Labels.{label_seen}
use Rattle.rv_asm.specs.Layout.{place_of}
use Rattle.rv_asm.specs.Files.{body_before}
use Rattle.rv_asm.proofs.Steps.{IsLayout, place_step, body_step, good_step, body_end}
use Rattle.rv_asm.proofs.assembler.body_of.Goals as goal

pub loop-line-init : goal.loop-line-init
unfolding place_of body_before
loop-line-init c = (refl, c.new-body.ensures.items, λ k h. absurd (omega arith))

pub loop-line-preserved : goal.loop-line-preserved
loop-line-preserved c =
    let layout : IsLayout c.args.lines.now (map label_seen c.args.layout.now.labels.items) c.args.layout.now.end = record { found = c.requires.labels; ends = c.requires.end } in
    let holds : c.in_ok-put_piece.field-0 ≡ true = c.if-not-branch.false in (
      place_step c.args.lines.now c.loop-line.line _ c.loop-line.place c.placed_after-place.result c.loop-line-test.true c.loop-line.invariant.0 c.placed_after-place.ensures,
      body_step c.args.lines.now c.loop-line.line _ (map label_seen c.args.layout.now.labels.items) c.args.layout.now.end c.loop-line.place c.in_ok-put_piece.field-0 _ _
          c.loop-line-test.true c.loop-line.invariant.0 layout c.loop-line.invariant.1 c.in_ok-put_piece.ensures,
      good_step c.args.lines.now c.loop-line.line _ (map label_seen c.args.layout.now.labels.items) c.args.layout.now.end c.loop-line.place c.in_ok-put_piece.field-0 _ _
          c.loop-line-test.true c.loop-line.invariant.0 layout c.loop-line.invariant.2 c.in_ok-put_piece.ensures holds,
    )

pub returns-clause-body : goal.returns-clause-body
returns-clause-body c = body_end c.args.lines.now c.loop-line.line c.loop-line.body.items c.loop-line-test.false c.loop-line.auto.line-end c.loop-line.invariant.1 c.loop-line.invariant.2

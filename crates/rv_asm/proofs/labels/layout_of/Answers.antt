use Rattle.std.proofs.Common.{ap, refl, map}
use Rattle.rv_asm.specs.Labels.{label_seen}
use Rattle.rv_asm.specs.Layout.{place_of, labels_before}
use Rattle.rv_asm.proofs.Steps.{place_step, labels_step}
use Rattle.rv_asm.proofs.labels.layout_of.Goals as goal

pub loop-line-init : goal.loop-line-init
unfolding place_of labels_before
loop-line-init c = (refl, ap (map label_seen) c.new-labels.ensures.items)

pub loop-line-preserved : goal.loop-line-preserved
loop-line-preserved c = (
  place_step c.args.lines.now c.loop-line.line _ c.loop-line.place c.placed_after-place.result c.loop-line-test.true c.loop-line.invariant.0 c.placed_after-place.ensures,
  labels_step c.args.lines.now c.loop-line.line _ c.loop-line.place _ _ c.loop-line-test.true c.loop-line.invariant.0 c.loop-line.invariant.1 c.in_ok-add_label.ensures,
)

use Rattle.shared_objects.proofs.KnownKeys.{no_side, sides_more}
use Rattle.shared_objects.proofs.known.sides_of.Goals as goal

pub loop-description-init : goal.loop-description-init
loop-description-init c = no_side c.new-sides.result c.new-sides.ensures

pub loop-description-preserved : goal.loop-description-preserved
loop-description-preserved c =
    sides_more c.loop-description.sides c.note_sides.new.sides c.args.descriptions.now c.loop-description.description-index c.description-item.result c.loop-description-test.true c.description-item.is
    c.in_ok-note_sides.ensures c.loop-description.invariant

use Rattle.shared_objects.proofs.KnownKeys.{none_opened, opened_more}
use Rattle.shared_objects.proofs.known.opened_of.Goals as goal

pub loop-description-init : goal.loop-description-init
loop-description-init c = none_opened c.new-opened.result c.new-opened.ensures

pub loop-description-preserved : goal.loop-description-preserved
loop-description-preserved c =
    opened_more c.loop-description.opened c.note_file.new.numbers c.args.descriptions.now c.loop-description.description-index c.description-item.result c.loop-description-test.true c.description-item.is
    c.in_ok-note_file.ensures c.loop-description.invariant

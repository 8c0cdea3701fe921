use Rattle.shared_objects.proofs.KnownKeys.{sides_pushed, ports_pushed}
use Rattle.shared_objects.proofs.descriptions.add_description.Goals as goal

pub returns-clause-sides : goal.returns-clause-sides
returns-clause-sides c =
    rw c.in_ok-push.ensures.ok (sides_pushed c.args.known.now.sides c.note_sides.new.sides c.args.descriptions.now c.in_ok-description.description c.in_ok-note_sides.ensures c.requires.sides)

pub returns-clause-ports : goal.returns-clause-ports
returns-clause-ports c =
    rw c.in_ok-push.ensures.ok (ports_pushed c.args.known.now.ports c.note_port.new.ports c.args.descriptions.now c.in_ok-description.description c.in_ok-note_port.ensures c.requires.ports)

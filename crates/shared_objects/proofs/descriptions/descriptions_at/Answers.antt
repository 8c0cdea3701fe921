use Rattle.shared_objects.proofs.KnownKeys.{no_side, no_port}
use Rattle.shared_objects.proofs.descriptions.descriptions_at.Goals as goal

pub add_descriptions-requires-clause-sides : goal.add_descriptions-requires-clause-sides
add_descriptions-requires-clause-sides c = rw c.new-descriptions.ensures (no_side c.new.result c.new.ensures)

pub add_descriptions-requires-clause-ports : goal.add_descriptions-requires-clause-ports
add_descriptions-requires-clause-ports c = rw c.new-descriptions.ensures (no_port c.new-2.result c.new-2.ensures)

use Rattle.shared_objects.proofs.KnownKeys.{stream_noted}
use Rattle.shared_objects.proofs.known.note_sides.Goals as goal

pub returns-in_ok-insert-in-Stream : goal.returns-in_ok-insert-in-Stream
returns-in_ok-insert-in-Stream c = rw c.in-Stream.is (stream_noted c.args.sides.now c.insert.new.self _ _ c.in_ok-insert-in-Stream.ensures.ok)

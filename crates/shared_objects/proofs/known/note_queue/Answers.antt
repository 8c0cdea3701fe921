use Rattle.shared_objects.proofs.KnownKeys.{queue_more}
use Rattle.shared_objects.proofs.known.note_queue.Goals as goal

pub loop-conn-preserved : goal.loop-conn-preserved
loop-conn-preserved c =
    queue_more c.args.sides.now c.loop-conn.sides c.insert.new.self c.args.pending.now c.loop-conn.conn-index _ c.loop-conn-test.true c.in_ok-insert.ensures.ok c.loop-conn.invariant

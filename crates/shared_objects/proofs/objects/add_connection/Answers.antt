use Rattle.shared_objects.proofs.KnownKeys.{one_queued}
use Rattle.shared_objects.proofs.objects.add_connection.Goals as goal

pub returns-clause-queue : goal.returns-clause-queue
returns-clause-queue c =
    rw c.in_ok-push.ensures.ok (one_queued c.args.queued.now c.insert.new.self c.args.pending.now c.in_ok-conn.conn c.in_ok-insert.ensures.ok c.requires.queue)

use Rattle.image_process.proofs.Waiting.{waits_after, waits_not}
use Rattle.image_process.proofs.waiters.is_waiting.Goals as goal

pub returns-then-has_thread : goal.returns-then-has_thread
returns-then-has_thread c = waits_after c.args.threads.now c.args.before.now c.args.tid _ _ c.has_thread.ensures c.has_waiter.ensures c.if-has_thread.true

pub returns-else-has_thread : goal.returns-else-has_thread
returns-else-has_thread c = waits_not c.args.threads.now c.args.before.now c.args.tid _ c.has_thread.ensures c.if-has_thread.false

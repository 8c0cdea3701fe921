use Rattle.std.proofs.Common.{ap, ◌∙◌}
use Rattle.plain_process.specs.Threads.{after_call}
use Rattle.thread_group.specs.Groups.{GroupPart, joined, with_change}
use Rattle.thread_group.proofs.Waking.{awake_is}
use Rattle.thread_group.proofs.group.ThreadGroup.wake_thread.Goals as goal

pub returns-clause-awake : goal.returns-clause-awake
returns-clause-awake c memory =
    ap (joined memory) (c.finish_call.ensures ∙ ap (λ (g : GroupPart). with_change g c.args.t.0 (λ thread. after_call thread 0)) c.stop_waiting.ensures)
    ∙ awake_is (joined memory c.args.self.now) c.args.t.0

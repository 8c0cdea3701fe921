use Rattle.std.proofs.Common.{sym, ap}
use Rattle.plain_process.specs.Threads.{Woken, wake}
use Rattle.plain_calls.proofs.waking.wake_first.Goals as goal

pub returns : goal.returns
unfolding wake
returns c = sym (ap (λ (woken : Woken). woken.user) (c.wake_one.ensures 0))

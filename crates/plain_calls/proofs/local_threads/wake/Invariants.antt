use Rattle.std.proofs.Common.{◌≡◌}
use Rattle.plain_process.specs.Threads.{wake}
use Rattle.plain_calls.proofs.local_threads.wake.Given as goal

abbrev pub invariant-loop-count : goal.invariant-loop-count
invariant-loop-count l = wake l.count l.address l.initial.user ≡ record { user = l.user; count = l.count }

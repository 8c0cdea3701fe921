use Rattle.std.proofs.Common.{◌-◌, ◌≤◌}
use Rattle.guest_mem.proofs.FreeRuns.{IsWalk}
use Rattle.guest_mem.proofs.space.Space.free_run.Given as goal

abbrev pub invariant-loop-page : goal.invariant-loop-page
invariant-loop-page l = record { walk : IsWalk l.self l.count 262144 l.page; within : l.page ≤ 458752 }

abbrev pub decreases-loop-page : goal.decreases-loop-page
decreases-loop-page l = 458753 - l.page

use Rattle.std.proofs.Common.{◌≡◌, ◌-◌, ◌≤◌}
use Rattle.guest_mem.specs.Runs.{without_pages}
use Rattle.guest_mem.proofs.space.Space.unmap.Given as goal

-- the pages so far are gone
abbrev pub invariant-loop-next : goal.invariant-loop-next
invariant-loop-next l = record { gone : l.self ≡ without_pages l.initial.self l.page l.done; within : l.done ≤ l.count }

abbrev pub decreases-loop-next : goal.decreases-loop-next
decreases-loop-next l = l.count - l.done

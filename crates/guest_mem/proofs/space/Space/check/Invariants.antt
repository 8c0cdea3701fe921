use Rattle.std.proofs.Common.{◌≡◌, ◌-◌, ◌≤◌, true}
use Rattle.std.specs.Prelude.{is_some}
use Rattle.plain_process.specs.Memory.{bytes_at}
use Rattle.guest_pages.specs.Refusals.{is_mapped}
use Rattle.guest_mem.proofs.space.Space.check.Given as goal

-- the bytes so far have their pages, and the flag says whether each page has the right
abbrev pub invariant-loop-done : goal.invariant-loop-done
invariant-loop-done l = record {
  within : l.done ≤ l.count;
  mapped : is_mapped l.self l.address l.done ≡ true;
  allowed : l.has_right ≡ is_some (bytes_at l.self l.right l.address l.done);
}

abbrev pub decreases-loop-done : goal.decreases-loop-done
decreases-loop-done l = l.count - l.done

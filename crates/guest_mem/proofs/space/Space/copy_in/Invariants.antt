use Rattle.std.proofs.Common.{◌≡◌, ◌-◌, ◌≤◌, take, length}
use Rattle.plain_process.specs.Memory.{with_bytes}
use Rattle.guest_mem.proofs.space.Space.copy_in.Given as goal

-- the front of the piece stands in the memory
abbrev pub invariant-loop-done : goal.invariant-loop-done
invariant-loop-done l = record {
  within : l.done ≤ length l.piece;
  written : l.self ≡ with_bytes l.initial.self l.address (take l.done l.piece);
}

abbrev pub decreases-loop-done : goal.decreases-loop-done
decreases-loop-done l = length l.piece - l.done

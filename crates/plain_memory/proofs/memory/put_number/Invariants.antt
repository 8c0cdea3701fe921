use Rattle.std.proofs.Common.{◌≡◌, ◌+◌, ◌-◌}
use Rattle.plain_process.specs.Memory.{with_bytes, low_bytes}
use Rattle.plain_memory.proofs.memory.put_number.Given as goal

abbrev pub invariant-loop-i : goal.invariant-loop-i
invariant-loop-i l = with_bytes l.memory (l.address + l.i) (low_bytes (l.size - l.i) l.rest) ≡ with_bytes l.initial.memory l.address (low_bytes l.size l.value)

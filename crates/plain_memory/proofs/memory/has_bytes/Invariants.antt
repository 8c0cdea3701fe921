use Rattle.std.proofs.Common.{◌≡◌}
use Rattle.std.specs.Prelude.{true, is_some}
use Rattle.plain_process.specs.Memory.{bytes_at}
use Rattle.plain_memory.proofs.memory.has_bytes.Given as goal

abbrev pub invariant-loop-i : goal.invariant-loop-i
invariant-loop-i l = is_some (bytes_at l.memory l.right l.address l.i) ≡ true

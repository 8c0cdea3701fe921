use Rattle.std.proofs.Common.{◌≡◌}
use Rattle.std.specs.Prelude.{Some}
use Rattle.plain_process.specs.Memory.{bytes_at}
use Rattle.plain_memory.proofs.memory.bytes_at.Given as goal

abbrev pub invariant-loop-i : goal.invariant-loop-i
invariant-loop-i l = bytes_at l.memory l.right l.address l.i ≡ Some l.bytes

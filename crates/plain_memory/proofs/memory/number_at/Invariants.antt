use Rattle.plain_process.specs.Memory.{bytes_at}
use Rattle.plain_memory.proofs.ByteByByte.{IsNumber}
use Rattle.plain_memory.proofs.memory.number_at.Given as goal

abbrev pub invariant-loop-i : goal.invariant-loop-i
invariant-loop-i l = IsNumber (bytes_at l.memory l.right l.address l.i) l.i l.number l.unit

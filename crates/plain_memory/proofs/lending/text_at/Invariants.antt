use Rattle.plain_process.proofs.TextBytes.{Reads}
use Rattle.plain_memory.proofs.lending.text_at.Given as goal

abbrev pub invariant-loop-i : goal.invariant-loop-i
invariant-loop-i l = Reads l.memory l.address l.i l.text

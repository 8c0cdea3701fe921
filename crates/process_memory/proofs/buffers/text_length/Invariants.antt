use Rattle.process_memory.proofs.Texts.{TextSoFar}
use Rattle.process_memory.proofs.buffers.text_length.Given as goal

abbrev pub invariant-loop-length : goal.invariant-loop-length
invariant-loop-length l = TextSoFar l.space l.address l.length

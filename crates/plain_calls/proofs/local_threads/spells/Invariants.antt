use Rattle.plain_calls.proofs.SpelledNumbers.{Spells}
use Rattle.plain_calls.proofs.local_threads.spells.Given as goal

abbrev pub invariant-loop-byte : goal.invariant-loop-byte
invariant-loop-byte l = Spells l.bytes l.value l.byte-index l.rest

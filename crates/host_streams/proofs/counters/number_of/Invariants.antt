use Rattle.plain_transfers.proofs.CounterBytes.{IsTail}
use Rattle.host_streams.proofs.counters.number_of.Given as goal

abbrev pub invariant-loop-i : goal.invariant-loop-i
invariant-loop-i l = IsTail l.bytes l.i l.number

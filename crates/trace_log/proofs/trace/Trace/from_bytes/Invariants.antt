use Rattle.std.proofs.Common.{length}
use Rattle.trace_log.proofs.Lists.{ReadTo}
use Rattle.trace_log.proofs.trace.Trace.from_bytes.Given as goal

abbrev pub invariant-loop-rest : goal.invariant-loop-rest
invariant-loop-rest l = ReadTo l.bytes l.records.items l.rest

abbrev pub decreases-loop-rest : goal.decreases-loop-rest
decreases-loop-rest l = length l.rest

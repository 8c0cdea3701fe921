use Rattle.trace_log.proofs.Bytes.{begins_with_none}
use Rattle.trace_log.proofs.trace.first_record.Goals as goal

pub returns-clause-none : goal.returns-clause-none
returns-clause-none c =
    begins_with_none c.read.result c.in_ok-front.front.now c.args.bytes.now c.record.result c.read.ensures.small c.read.ensures.value c.in_ok-front.ensures.cases.same c.record.ensures.none

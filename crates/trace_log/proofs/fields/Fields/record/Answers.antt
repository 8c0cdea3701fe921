use Rattle.std.proofs.Common.{◌∙◌, sym}
use Rattle.trace_log.proofs.OneRecord.{no_fields, other_fields}
use Rattle.trace_log.proofs.fields.Fields.record.Goals as goal

pub returns-in_err-event-clause-none : goal.returns-in_err-event-clause-none
returns-in_err-event-clause-none c =
    rw c.from_residual.ensures (no_fields c.args.self (sym c.candidate.ensures.value ∙ c.in_err-event.was))

pub returns-else-eq-clause-none : goal.returns-else-eq-clause-none
returns-else-eq-clause-none c =
    other_fields c.args.self c.of.result c.in_ok-event.event (sym c.candidate.ensures.value ∙ c.in_ok-event.was) c.of.ensures.value (sym c.eq.ensures ∙ c.if-eq.false)

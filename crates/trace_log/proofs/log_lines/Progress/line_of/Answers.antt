use Rattle.std.proofs.lemmas.Result.{IfOk-weaker}
use Rattle.trace_log.proofs.LogLines.{line_of-Complete}
use Rattle.trace_log.proofs.log_lines.Progress.line_of.Goals as goal

pub returns-in-Complete : goal.returns-in-Complete
returns-in-Complete c =
    IfOk-weaker c.format.result _ _
    (λ line written. line_of-Complete c.args.self.now c.in-Complete.generation c.args.event.now _ c.in-Complete.is written)
    c.format.ensures.ok

use Rattle.std.proofs.lemmas.Result.{IfOk-weaker}
use Rattle.trace_log.proofs.LogLines.{line_of-Unsupported, line_of-Memory}
use Rattle.trace_log.proofs.log_lines.refusal.Goals as goal

pub returns-in-Unsupported : goal.returns-in-Unsupported
returns-in-Unsupported c =
    IfOk-weaker c.format.result _ _
    (λ line written so_far same. line_of-Unsupported so_far c.args.request c.in-Unsupported.p c.in-Unsupported.fd c.in-Unsupported.kind c.args.cause c.kind_text-kind.result.now _ c.in-Unsupported.is same c.kind_text-kind.ensures written)
    c.format.ensures.ok

pub returns-in-Memory : goal.returns-in-Memory
returns-in-Memory c =
    IfOk-weaker c.format-in-Memory.result _ _
    (λ line written so_far same. line_of-Memory so_far c.args.request c.args.cause _ c.in-Memory.is same written)
    c.format-in-Memory.ensures.ok

use Rattle.std.proofs.Common.{ap, sym, ◌∙◌}
use Rattle.plain_machine.specs.Answers.{answer_told}
use Rattle.plain_rows.proofs.Settling.{serve_settles, waiting_keeps, short_answer}
use Rattle.plain_rows.proofs.serving.serve.Goals as goal

pub returns-clause-ok : goal.returns-clause-ok
returns-clause-ok c =
    serve_settles c.args.kernel.now c.row.new.kernel c.args.p c.args.t.0 c.args.request.now c.args.given.now c.in_ok-attempt.attempt c.in_ok-attempt.ensures.row c.in_ok-attempt.ensures.kept
    ∙ ap (answer_told c.row.new.kernel c.args.given.now) (sym c.settled.ensures)

pub returns-clause-waits : goal.returns-clause-waits
returns-clause-waits c = λ waits.
    waiting_keeps c.args.kernel.now c.row.new.kernel c.in_ok-attempt.attempt c.in_ok-attempt.ensures.kept (sym c.settled.ensures ∙ waits)

pub returns-clause-short : goal.returns-clause-short
returns-clause-short c =
    short_answer c.args.kernel.now c.row.new.kernel c.args.p c.args.t.0 c.args.request.now c.args.given.now c.settled.result (returns-clause-ok c)

use Rattle.std.proofs.Common.{◌∙◌}
use Rattle.wrap_ends.proofs.Steps.{number_told, none_told, always, kept_pair, dropped_pair}
use Rattle.wrap_ends.proofs.threads.forget_thread.Goals as goal

pub returns-in_default : goal.returns-in_default
returns-in_default c t leads =
    absurd (always c.args.ids.now c.whole.ensures.numbers t _ leads
    (none_told _ _ _ c.in_default.ensures))

pub returns-then-number-p : goal.returns-then-number-p
returns-then-number-p c t leads =
    kept_pair c.args.ids.now c.whole.ensures.numbers t _ leads c.args.p.0 c.in-Ok.number
    (number_told _ c.in-Ok.number _ c.in-Ok.ensures) c.if-number-p.true

pub returns : goal.returns
returns c t leads =
    c.drop_pid.ensures.dropped
    ∙ dropped_pair c.args.ids.now c.whole.ensures.numbers t _ leads c.args.p.0 c.in-Ok.number
    (number_told _ c.in-Ok.number _ c.in-Ok.ensures) c.if-number-p.false

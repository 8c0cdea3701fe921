use Rattle.plain_steps.proofs.StepsInRow.{stops}
use Rattle.plain_steps.proofs.steps.user_steps.Goals as goal

pub returns-in_default : goal.returns-in_default
returns-in_default c =
    let both =
    stops c.loop-done._done c.args.n c.args.user.now c.args.t.0 c.loop-done.user c.user_step.new.user c.user_step.result c.loop-done-test.true c.loop-done.invariant
    c.user_step.ensures.step c.user_step.ensures.stays c.in_default.not-Stepped in
    record { steps = both.1; stops = both.0 }
